-- Where the parts of functions stand, and with which names known (ISO/IEC 9899:1999, 6.2.1 and 6.8): a name is known from the
-- end of its declarator to the end of its block, so no name leaves a statement.
use Rattle.std.specs.Prelude.{ℕ, ◌+◌, ◌≡◌, ◌⊎◌, Bool, true, false, if◌then◌else◌, nat_lt, Option, Some, None, List, [], ◌∷◌}
use Rattle.std.specs.Prelude.{length}
use Rattle.ec_space.specs.declared.space.SpaceId.TheVariants.{Generic}
use Rattle.ec_grammar.specs.Trees as t
use Rattle.ec_core.specs.Plain.{PlainType}
use Rattle.ec_check_names.specs.Names.{Names, an_object, with_inside}
use Rattle.ec_check_declarations.specs.Declarators.{ObjectDeclared}
use Rattle.ec_check_declarations.specs.Scopes.{Context, known_in}
use Rattle.ec_check_statements.specs.Around.{under}
use Rattle.ec_check_parts.specs.Readings.{Reading}
use Rattle.ec_check_parts.specs.Parts.{Part, block_specifiers, block_object, block_initialiser, condition, evaluation, returned, leaving}

-- ---- names

-- The names that are known at a place of a function, and how many objects the program has so far. No constraint speaks of that
-- number: the entry of an object in a block has it.
pub record Inside : Type 0 where
  pub names : Names
  pub made : ℕ

-- one object more, where its type is known and a number of 16 bits is left for it; and the number that it has
abbrev pub made_with : Option PlainType → ℕ → ℕ
made_with None n = n
made_with (Some ty) n = if nat_lt n 65_536 then n + 1 else n

abbrev pub number_for : Option PlainType → ℕ → ℕ
number_for None n = 0
number_for (Some ty) n = if nat_lt n 65_536 then n else 0

-- an object of a function is declared, a parameter or one in a block
abbrev pub with_object : List ℕ → Option PlainType → (konst : Bool) → Inside → Inside
with_object n ty konst s =
    record {
      names = with_inside n (an_object (Some (number_for ty s.made)) ty konst Generic false) s.names;
      made = made_with ty s.made;
    }

-- ---- around a part

-- what stands around: whether a loop does; the type of the function's result, where its declaration breaks no constraint on
-- it; and how many names blocks had where the innermost block began
pub record Surroundings : Type 0 where
  pub in_loop : Bool
  pub result : Option PlainType
  pub first : ℕ

abbrev pub in_a_loop : Surroundings → Surroundings
in_a_loop r = record { in_loop = true; result = r.result; first = r.first }

abbrev pub in_a_block : Surroundings → Names → Surroundings
in_a_block r names = record { in_loop = r.in_loop; result = r.result; first = length names.inside }

abbrev pub StandsInStart : Context → Names → Option t.Start → Option PlainType → Part → Type 0
StandsInStart c names None ty p = ⊥
StandsInStart c names (Some (t.start equals i)) ty p = p ≡ block_initialiser (known_in c names) ty i

abbrev pub IsTest : Context → Names → Option t.Expression → (at : ℕ) → Part → Type 0
IsTest c names None at p = ⊥
IsTest c names (Some x) at p = p ≡ condition (known_in c names) x at

abbrev pub IsEvaluation : Context → Names → Option t.Expression → Part → Type 0
IsEvaluation c names None p = ⊥
IsEvaluation c names (Some x) p = p ≡ evaluation (known_in c names) x

-- ---- behind a part, and which parts stand in it

-- by a reading of declarators
module _ (q : Reading) where
  abbrev pub object_of : Context → t.Specs → t.InitDeclarator → Names → ObjectDeclared
  object_of c ss (t.init_declarator d start) names = q.object (known_in c names) ss d start

  abbrev pub behind_declarator : Context → t.Specs → t.InitDeclarator → Inside → Inside
  behind_declarator c ss (t.init_declarator (t.declarator stars (t.identifier at n) shape) start) s =
      let o = object_of c ss (t.init_declarator (t.declarator stars (t.identifier at n) shape) start) s.names in
      with_object n o.ty o.konst s

  abbrev pub behind_declarators : Context → t.Specs → List t.NextInitDeclarator → Inside → Inside
  behind_declarators c ss [] s = s
  behind_declarators c ss (t.next_init_declarator comma d ∷ ds) s = behind_declarators c ss ds (behind_declarator c ss d s)

  abbrev pub behind_declaration : Context → t.Declaration → Inside → Inside
  behind_declaration c (t.declaration ss first more e) s = behind_declarators c ss more (behind_declarator c ss first s)

  abbrev pub behind_first : Context → t.First → Inside → Inside
  behind_first c (t.first_declared d) s = behind_declaration c d s
  behind_first c (t.first_evaluated x e) s = s

  abbrev pub behind_heading : Context → t.Heading → Inside → Inside
  behind_heading c (t.heading l first x semicolon y e) s = behind_first c first s

  -- how many objects the program has behind a statement
  abbrev mutual
    pub made_behind : Context → t.Statement → Inside → ℕ
    made_behind c (t.block (t.compound l ps xs e)) s = (behind_items (under ps c) xs s).made
    made_behind c (t.simple x e) s = s.made
    made_behind c (t.if_then at x a) s = made_behind c a s
    made_behind c (t.if_else at x a e b) s = made_behind c b (record { names = s.names; made = made_behind c a s })
    made_behind c (t.while_loop at x a) s = made_behind c a s
    made_behind c (t.do_loop at a w x e) s = made_behind c a s
    made_behind c (t.for_loop at h a) s = made_behind c a (behind_heading c h s)
    made_behind c (t.break_loop at e) s = s.made
    made_behind c (t.continue_loop at e) s = s.made
    made_behind c (t.return_value at x e) s = s.made

    pub behind_item : Context → t.Item → Inside → Inside
    behind_item c (t.declared d) s = behind_declaration c d s
    behind_item c (t.stated x) s = record { names = s.names; made = made_behind c x s }

    pub behind_items : Context → t.Items → Inside → Inside
    behind_items c t.no_items s = s
    behind_items c (t.items x xs) s = behind_items c xs (behind_item c x s)

  -- the names behind a statement are those before it
  abbrev pub behind : Context → t.Statement → Inside → Inside
  behind c x s = record { names = s.names; made = made_behind c x s }

  -- at the end of a body
  abbrev pub behind_body : Context → t.Compound → Inside → Inside
  behind_body c (t.compound l ps xs e) s = behind_items (under ps c) xs s

  -- a declarator, and its initialiser, in which its name is known
  abbrev pub StandsInDeclarator : Context → Surroundings → t.Specs → t.InitDeclarator → Inside → Part → Type 0
  StandsInDeclarator c r ss (t.init_declarator (t.declarator stars (t.identifier at n) shape) start) s p =
      let d = t.init_declarator (t.declarator stars (t.identifier at n) shape) start in
      (p ≡ block_object (known_in c s.names) r.first ss stars at.index n shape start)
      ⊎ StandsInStart c (behind_declarator c ss d s).names start (object_of c ss d s.names).ty p

  abbrev pub StandsInDeclarators : Context → Surroundings → t.Specs → List t.NextInitDeclarator → Inside → Part → Type 0
  StandsInDeclarators c r ss [] s p = ⊥
  StandsInDeclarators c r ss (t.next_init_declarator comma d ∷ ds) s p =
      StandsInDeclarator c r ss d s p ⊎ StandsInDeclarators c r ss ds (behind_declarator c ss d s) p

  abbrev pub StandsInDeclaration : Context → Surroundings → t.Declaration → Inside → Part → Type 0
  StandsInDeclaration c r (t.declaration ss first more e) s p =
      (p ≡ block_specifiers c.tags ss)
      ⊎ (StandsInDeclarator c r ss first s p ⊎ StandsInDeclarators c r ss more (behind_declarator c ss first s) p)

  abbrev pub StandsInFirst : Context → Surroundings → t.First → Inside → Part → Type 0
  StandsInFirst c r (t.first_declared d) s p = StandsInDeclaration c r d s p
  StandsInFirst c r (t.first_evaluated x e) s p = IsEvaluation c s.names x p

  -- the parts in the parentheses of a `for`, where what its first part declares is known
  abbrev pub StandsInHeading : Context → Surroundings → t.Heading → (at : ℕ) → Inside → Part → Type 0
  StandsInHeading c r (t.heading l first x semicolon y e) at s p =
      StandsInFirst c r first s p
      ⊎ (IsTest c (behind_first c first s).names x at p ⊎ IsEvaluation c (behind_first c first s).names y p)

  abbrev mutual
    pub StandsInStatement : Context → Surroundings → t.Statement → Inside → Part → Type 0
    StandsInStatement c r (t.block (t.compound l ps xs e)) s p = StandsInItems (under ps c) (in_a_block r s.names) xs s p
    StandsInStatement c r (t.simple x e) s p = IsEvaluation c s.names x p
    StandsInStatement c r (t.if_then at (t.condition l x e) a) s p =
        (p ≡ condition (known_in c s.names) x at.index) ⊎ StandsInStatement c r a s p
    StandsInStatement c r (t.if_else at (t.condition l x e) a w b) s p =
        (p ≡ condition (known_in c s.names) x at.index)
        ⊎ (StandsInStatement c r a s p ⊎ StandsInStatement c r b (behind c a s) p)
    StandsInStatement c r (t.while_loop at (t.condition l x e) a) s p =
        (p ≡ condition (known_in c s.names) x at.index) ⊎ StandsInStatement c (in_a_loop r) a s p
    StandsInStatement c r (t.do_loop at a w (t.condition l x e) z) s p =
        StandsInStatement c (in_a_loop r) a s p ⊎ (p ≡ condition (known_in c s.names) x w.index)
    StandsInStatement c r (t.for_loop at h a) s p =
        StandsInHeading c (in_a_block r s.names) h at.index s p
        ⊎ StandsInStatement c (in_a_loop (in_a_block r s.names)) a (behind_heading c h s) p
    StandsInStatement c r (t.break_loop at e) s p = p ≡ leaving r.in_loop at.index
    StandsInStatement c r (t.continue_loop at e) s p = p ≡ leaving r.in_loop at.index
    StandsInStatement c r (t.return_value at x e) s p = p ≡ returned (known_in c s.names) r.result x at.index

    pub StandsInItem : Context → Surroundings → t.Item → Inside → Part → Type 0
    StandsInItem c r (t.declared d) s p = StandsInDeclaration c r d s p
    StandsInItem c r (t.stated x) s p = StandsInStatement c r x s p

    pub StandsInItems : Context → Surroundings → t.Items → Inside → Part → Type 0
    StandsInItems c r t.no_items s p = ⊥
    StandsInItems c r (t.items x xs) s p = StandsInItem c r x s p ⊎ StandsInItems c r xs (behind_item c x s) p

  -- the body of a function, whose outermost block is the scope of its parameters
  abbrev pub StandsInBody : Context → Surroundings → t.Compound → Inside → Part → Type 0
  StandsInBody c r (t.compound l ps xs e) s p = StandsInItems (under ps c) r xs s p
