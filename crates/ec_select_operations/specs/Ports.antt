-- The code of operations on ports, passed on.
pub use Rattle.ec_select_bytes.specs.Ports.{has_io_number, in_instruction, out_instruction, read_instruction}
pub use Rattle.ec_select_bytes.specs.Ports.{write_instruction, read_byte, write_byte, write_code, scale_code, point_code}
pub use Rattle.ec_select_bytes.specs.Ports.{in_code, out_code}
pub use Rattle.ec_select_bytes.specs.Ports.{first_cell, cell_place, pointed, further_code, cell_point_code}
pub use Rattle.ec_select_bytes.specs.Ports.{cell_in_code, cell_out_code}
