-- Programs and what they weigh, by computation alone.
use Rattle.std.proofs.Common.{◌≡◌, ℕ, zero, suc, true, false, pos, List, [], ◌∷◌, ◌++◌, Some, None, refl}
use Rattle.ec_fx.specs.declared.numbers.Mode.{Mode}
use Rattle.ec_space.specs.declared.space.Home.TheVariants.{Data as DataHome}
use Rattle.ec_space.specs.declared.space.SpaceId.TheVariants.{Generic}
use Rattle.ec_core.specs.declared.expressions.BinOp.TheVariants.{Div}
use Rattle.ec_core.specs.Plain.{PlainType, integer, PlainExpr, expression, PlainNode, number, load, binary, convert, assign, object}
use Rattle.ec_core.specs.Plain.{last_expr, next_expr, PlainStmt, statement, PlainKind, block, declare, evaluate, return_value}
use Rattle.ec_core.specs.Plain.{PlainStmts, last_stmt, next_stmt, local, PlainProgram}
use Rattle.ec_core.specs.PortTable.{PlainTable}
use Rattle.ec_core.specs.Typing.{int}
use Rattle.ec_core.specs.Weight.{weight}
use Rattle.ec_core_shapes.specs.SharedWeight.{shared_weight}

abbrev long : PlainType
long = integer true 4

abbrev typed : PlainType → PlainNode → PlainExpr
typed ty node = expression ty (record { saturate = false }) node

abbrev does : PlainKind → PlainStmt
does kind = statement 0 0 kind

-- a = a / 2;
abbrev halved : PlainStmt
halved = does (evaluate (typed long (assign (object 0) (typed long (binary Div (typed long (load (object 0)))
    (typed long (convert (typed int (number (pos 2))))))))))

-- so many times, and then the rest
abbrev times : ℕ → PlainStmts → PlainStmts
times zero rest = rest
times (suc n) rest = next_stmt halved (times n rest)

-- int main(void){long a = 1000000; a = a / 2; .. return (int)a;}
abbrev quotients : ℕ → PlainProgram
quotients n = record {
  structs = [];
  objects =
      record {
        name = [];
        unit = 0;
        external = false;
        ty = long;
        space = Generic;
        home = DataHome;
        const = false;
        storage = local 0;
      }
      ∷ [];
  functions =
      record {
        name = [];
        unit = 0;
        returns = int;
        params = [];
        body =
            does (block (next_stmt (does (declare 0 (next_expr (typed long (number (pos 1_000_000))) last_expr)))
            (times n (next_stmt (does (return_value (Some (typed int (convert (typed long (load (object 0)))))))) last_stmt))));
      }
      ∷ [];
  main = 0;
}

abbrev no_ports : PlainTable
no_ports = record { ports = []; groups = []; dynamics = [] }

-- sixteen quotients of one shape count as one and sixteen calls, and so do their conversions
sixteen_quotients : weight (quotients 16) no_ports ≡ 34_900
sixteen_quotients = refl

sixteen_shared_quotients : shared_weight (quotients 16) no_ports ≡ 10_920
sixteen_shared_quotients = refl

-- one of each weighs the same by shapes
one_quotient : shared_weight (quotients 1) no_ports ≡ weight (quotients 1) no_ports
one_quotient = refl
