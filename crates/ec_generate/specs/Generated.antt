-- The generated programs: for each number the text of one, and the map by which all are placed. A program adds up a table
-- of so many numbers in flash, writes each sum to a port, and adds as often 0.01 to a saturating fixed-point number.
use Rattle.std.specs.Prelude.{ℕ, zero, suc, ◌%◌, ◌++◌, List, [], codes}
use Rattle.std.specs.Fmt.{decimal}

-- a comma where something stands before
abbrev pub comma_behind : ℕ → List ℕ
comma_behind zero = []
comma_behind (suc i) = codes ","

-- the numbers i mod 10 for i from 0 to n - 1, joined by commas
abbrev pub table_values : ℕ → List ℕ
table_values zero = []
table_values (suc i) = table_values i ++ (comma_behind i ++ decimal (i % 10))

abbrev pub table_name : List ℕ
table_name = codes "const __flash int t["

abbrev pub table_start : List ℕ
table_start = codes "] = {"

abbrev pub table_end : List ℕ
table_end = codes "};\n"

abbrev pub table_line : ℕ → List ℕ
table_line n = table_name ++ (decimal n ++ (table_start ++ (table_values n ++ table_end)))

abbrev pub loop_start : List ℕ
loop_start = codes "  for (i = 0; i < "

abbrev pub loop_end : List ℕ
loop_end = codes "; i = i + 1) {\n"

abbrev pub loop_line : ℕ → List ℕ
loop_line n = loop_start ++ (decimal n ++ loop_end)

abbrev pub include_line : List ℕ
include_line = codes "#include <iohw.h>\n"

abbrev pub first_lines : List ℕ
first_lines = codes "int main(void) {\n  int i;\n  int s = 0;\n  _Sat _Fract f = 0.0r;\n"

abbrev pub last_lines : List ℕ
last_lines =
    codes "    s = s + t[i];\n    f = f + 0.01r;\n    iowr(LED, s);\n  }\n  return s + (int)((_Accum)f << 6);\n}\n"

abbrev pub generated : ℕ → List ℕ
generated n = include_line ++ (table_line n ++ (first_lines ++ (loop_line n ++ last_lines)))

-- ---- the map

abbrev pub regions_text : List ℕ
regions_text =
    codes "core = \"small\"\n[region]\ncode = [0, 28672]\ntables = [28672, 4096]\ndata = [256, 1792]\nstack = [2048, 256]\n"

abbrev pub ports_text : List ℕ
ports_text =
    codes "[[port]]\nname = \"LED\"\naddress = 0x25\nwidth = 1\n"
    ++ (codes "[[port]]\nname = \"SAMPLE\"\naddress = 0x79\nwidth = 1\ngroup = \"ADC\"\n"
    ++ codes "[[port]]\nname = \"T\"\naddress = 0x84\nwidth = 2\n")

abbrev pub group_text : List ℕ
group_text = codes "[[group]]\nname = \"ADC\"\nacquire = [[0x7A, 0x80]]\nrelease = [[0x7A, 0x00]]\n"

abbrev pub map_text : List ℕ
map_text = regions_text ++ (ports_text ++ group_text)
