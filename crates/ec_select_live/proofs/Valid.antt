-- Operations of valid functions.
use Rattle.std.proofs.Common.{ℕ, arith, List, [], ◌∷◌, Option, Some, None}
use Rattle.std.specs.List.{AllByRecursion}
use Rattle.ec_ir.specs.declared.operations.Temp.{Temp}
use Rattle.ec_ir.specs.Operations.{PlainIr, constant, copy, address, field, load_at, store_at, load_object}
use Rattle.ec_ir.specs.Operations.{store_object, binary_op, unary_op, conversion, label, jump, branch_zero}
use Rattle.ec_ir.specs.Operations.{call_function, return_from, port_in, port_out, load_cell, store_cell, cell_port}
use Rattle.ec_ir.specs.Operations.{PlainIrProgram}
use Rattle.ec_ir.specs.Valid.{IsTemp, IsIndex, Results, IsResult, ValidOperation}
use Rattle.ec_select_live.specs.Laws.{ValidOperationsHavePlaces}
use Rattle.ec_select_live.specs.Places.{HasPlace, MayHavePlace, HasPlaces, HavePlaces}

place_of : (s : ℕ) (t : Temp) → IsTemp s t → HasPlace s t
place_of s t h = (h.within, h.most)

module _ (cells : ℕ) (p : PlainIrProgram) (results : Results) (f s : ℕ) (all : List PlainIr) where
  place_of_result : (from : Option Temp) → IsResult cells p results f s all f from → MayHavePlace s from
  place_of_result None h = tt
  place_of_result (Some t) h = place_of s t h.0

  place_of_called : (g : ℕ) (to : Option Temp) → IsResult cells p results f s all g to → MayHavePlace s to
  place_of_called g None h = tt
  place_of_called g (Some t) h = place_of s t h.0

  place_of_index : (index : Option Temp) → IsIndex s index → MayHavePlace s index
  place_of_index None h = tt
  place_of_index (Some t) h = place_of s t h.0

  places_of : (i : PlainIr) → ValidOperation cells p results f s all i → HasPlaces s i
  places_of (constant t n) h = place_of s t h.0
  places_of (copy to from) h = (place_of s to h.0, place_of s from h.1)
  places_of (load_object t o offset) h = place_of s t h.0
  places_of (store_object o offset t) h = place_of s t h.0
  places_of (binary_op op ty mode to a aty b bty) h =
      (place_of s to h.0.temp, place_of s a h.1.temp, place_of s b h.2.temp)
  places_of (unary_op op ty mode to a) h = (place_of s to h.0.temp, place_of s a h.1.temp)
  places_of (conversion to ty mode a aty) h = (place_of s to h.0.temp, place_of s a h.1.temp)
  places_of (branch_zero t l) h = place_of s t h.0
  places_of (return_from from) h = place_of_result from h
  places_of (label l) h = tt
  places_of (jump l) h = tt
  places_of (address t o offset) h = place_of s t h.0
  places_of (field ptr space offset) h = place_of s ptr h.temp
  places_of (load_at to ptr space) h = (place_of s to h.0, place_of s ptr h.1.temp)
  places_of (store_at ptr space from) h = (place_of s ptr h.0.temp, place_of s from h.1)
  places_of (call_function g to) h = place_of_called g to h.1
  places_of (port_in to port index width) h = (place_of s to h.0.temp, place_of_index index h.1)
  places_of (port_out from port index width) h =
      (let most = h.0.temp.most in let within = h.0.within in
      (place_of s from h.0.temp, place_of_index index h.1, omega (arith, most, within)))
  places_of (load_cell to cell) h = place_of s to h.temp
  places_of (store_cell cell from) h = place_of s from h.temp
  places_of (cell_port read t cell offset index width) h =
      (let most = h.1.temp.most in let within = h.1.within in
      (place_of s t h.1.temp, place_of_index index h.2, omega (arith, most, within)))

  places_of_all : (code : List PlainIr) → AllByRecursion (ValidOperation cells p results f s all) code → HavePlaces s code
  places_of_all [] h = tt
  places_of_all (i ∷ code) h = (places_of i h.0, places_of_all code h.1)

pub valid_operations_have_places : ValidOperationsHavePlaces
valid_operations_have_places cells p results f g h = places_of_all cells p results f g.slots g.code g.code h.code
