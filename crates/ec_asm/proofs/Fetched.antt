-- What is fetched, where Y holds a base and where it is free.
use Rattle.std.proofs.Common.{◌≡◌, ℕ, ◌<◌, ◌≤◌, true, Option, Some, None, refl, sym, ap, ◌∙◌}
use Rattle.std.proofs.lemmas.Bool.{lt-ltb, le-ltb}
use Rattle.std.proofs.lemmas.Option.{cond_some}
use Rattle.ec_isa.specs.declared.instructions.Instr.{Instr}
use Rattle.ec_asm.specs.Base.{leaves_base}
use Rattle.ec_asm.specs.Change.{Env}
use Rattle.ec_asm.specs.Run.{stored, fetch, fetch_by, keeps_base}

-- what is fetched is stored, and keeps the base
pub fetched : (e : Env) (pc : ℕ) (i : Instr) → fetch e pc ≡ Some i → (stored e pc ≡ Some i) × (keeps_base e.base i ≡ true)
fetched e pc i h = by_stored (stored e pc) h where
  by_stored : (o : Option Instr) → fetch_by e.base o ≡ Some i → (o ≡ Some i) × (keeps_base e.base i ≡ true)
  by_stored None f = cc
  by_stored (Some j) f =
      let t = cond_some (keeps_base e.base j) j i f in
      (ap Some t.1, ap (keeps_base e.base) (sym t.1) ∙ t.0)

-- and the other way round
pub fetch_kept : (e : Env) (pc : ℕ) (i : Instr) → stored e pc ≡ Some i → keeps_base e.base i ≡ true → fetch e pc ≡ Some i
fetch_kept e pc i s k = ap (fetch_by e.base) s ∙ rw k refl

-- where Y is free, any instruction is fetched
pub free_keeps : (base : ℕ) (i : Instr) → 65536 ≤ base → keeps_base base i ≡ true
free_keeps base i h = rw (le-ltb base 65536 h) refl

-- where it holds a base, one that leaves it
pub based_leaves : (base : ℕ) (i : Instr) → base < 65536 → keeps_base base i ≡ true → leaves_base i ≡ true
based_leaves base i l h = rw (lt-ltb base 65536 l) at h
