-- The constraints of expressions, told at tokens: one constructor for each, over the sites of an expression and what is
-- seen there.
use Rattle.std.specs.Prelude.{ℕ}
use Rattle.ec_check_forms.specs.Constraints.{IsUndefined, IsUndeclared, IsMiscalled, HasWrongArguments}
use Rattle.ec_check_forms.specs.Constraints.{HasUnsuited, HasNoCommonType, HasNoCondition, HasNoPlace}
use Rattle.ec_check_forms.specs.Constraints.{AssignsConst, ConvertsBetweenKinds, ConvertsOutOfSpace}
use Rattle.ec_check_forms.specs.Constraints.{ConvertsOutOfConst, Miscasts, HasPointersApart}
use Rattle.ec_check_forms.specs.Constraints.{TakesRegisterAddress, ReachesNothing, NamesNoMember}
use Rattle.ec_check_forms.specs.Constraints.{NamesNoPort, NamesWidePort, UsesNoValue}
use Rattle.ec_check_forms.specs.Sites as operands
use Rattle.ec_check_expressions.specs.Known.{Known}
use Rattle.ec_check_expressions.specs.Sites.{on}
use Rattle.ec_check_meanings.specs.Sites.{SiteIn}
use Rattle.ec_check_meanings.specs.Terms.{Term}

pub data IsBroken (k : Known) (x : Term) (token : ℕ) : (rule : ℕ) → Type 0 where
  -- a function that is called, or an object that is used, is defined in no unit
  undefined : {s : operands.Site} → SiteIn k x (on s) → IsUndefined s token → IsBroken k x token 19
  -- a name is not declared before its use
  undeclared : {s : operands.Site} → SiteIn k x (on s) → IsUndeclared s token → IsBroken k x token 20
  -- a function's name stands where no call is, or what is called is no function's name
  miscalled : {s : operands.Site} → SiteIn k x (on s) → IsMiscalled s token → IsBroken k x token 21
  -- a call has the wrong number of arguments
  wrong_arguments : {s : operands.Site} → SiteIn k x (on s) → HasWrongArguments s token → IsBroken k x token 22
  -- an operand does not suit its operator
  unsuited : {s : operands.Site} → SiteIn k x (on s) → HasUnsuited s token → IsBroken k x token 23
  -- what is compared, or what `?:` chooses from, has no common type
  no_common_type : {s : operands.Site} → SiteIn k x (on s) → HasNoCommonType s token → IsBroken k x token 24
  -- a condition, or an operand of `!`, `&&` or `||`, is not scalar
  no_condition : {s : operands.Site} → SiteIn k x (on s) → HasNoCondition s token → IsBroken k x token 25
  -- what is assigned, stepped or taken the address of is no place, or what is assigned is an array or a struct
  no_place : {s : operands.Site} → SiteIn k x (on s) → HasNoPlace s token → IsBroken k x token 26
  -- a const place is assigned
  const_assigned : {s : operands.Site} → SiteIn k x (on s) → AssignsConst s token → IsBroken k x token 27
  -- a value is implicitly converted between kinds of types
  between_kinds : {s : operands.Site} → SiteIn k x (on s) → ConvertsBetweenKinds s token → IsBroken k x token 28
  -- a pointer is implicitly converted out of its space
  out_of_space : {s : operands.Site} → SiteIn k x (on s) → ConvertsOutOfSpace s token → IsBroken k x token 29
  -- an implicit conversion drops const of what is pointed to
  out_of_const : {s : operands.Site} → SiteIn k x (on s) → ConvertsOutOfConst s token → IsBroken k x token 30
  -- a cast between types that allow none
  miscast : {s : operands.Site} → SiteIn k x (on s) → Miscasts s token → IsBroken k x token 31
  -- two pointers meet whose spaces are apart
  pointers_apart : {s : operands.Site} → SiteIn k x (on s) → HasPointersApart s token → IsBroken k x token 32
  -- `&` is applied to a named-register object
  register_address : {s : operands.Site} → SiteIn k x (on s) → TakesRegisterAddress s token → IsBroken k x token 33
  -- `*`, `[ ]`, `->` or `.` reaches nothing, or an index is no integer
  nothing_reached : {s : operands.Site} → SiteIn k x (on s) → ReachesNothing s token → IsBroken k x token 34
  -- a struct has no such member
  no_member : {s : operands.Site} → SiteIn k x (on s) → NamesNoMember s token → IsBroken k x token 35
  -- the first argument of an operation names no port, or neither a group nor a dynamic group; or it has the wrong
  -- number of arguments; or those of `iogroup_map` are not the name of a dynamic group and then, as a bare identifier,
  -- the name of a group among its choices
  no_port : {s : operands.Site} → SiteIn k x (on s) → NamesNoPort s token → IsBroken k x token 36
  -- an operation that is not long names a port of width 4
  wide_port : {s : operands.Site} → SiteIn k x (on s) → NamesWidePort s token → IsBroken k x token 37
  -- a void value is used, or a struct stands as a part of a comma
  no_value : {s : operands.Site} → SiteIn k x (on s) → UsesNoValue s token → IsBroken k x token 40
