-- The data bytes of a machine after a reset.
use Rattle.std.proofs.Common.{◌≡◌, ℕ, zero, suc, ◌+◌, ◌-◌, ◌<◌, Bool, true, false, List, length, drop, slice_index, map, refl, sym, ap, ◌∙◌}
use Rattle.std.proofs.Common.{subst, arith}
use Rattle.std.specs.Prelude.{if◌then◌else◌}
use Rattle.std.specs.List.{slice_range, range_with_len}
use Rattle.std.proofs.lemmas.List.{take_at, take_all}
use Rattle.std.proofs.lemmas.List.FromFn.{fill_by_all, length-map-range_with_len}
use Rattle.ec_space.specs.Memory.{overwrite, IsFilled, data_size}
use Rattle.ec_avr.specs.Machine.{State, IsReset, reset_with}
use Rattle.ec_space.specs.declared.Core.{Core}
use Rattle.ec_avr.specs.State.{is_port}

-- a list is written over the whole of another
pub overwrite-all : (xs ws : List ℕ) → length ws ≡ length xs → overwrite xs 0 ws ≡ ws
overwrite-all xs ws same = take_at ws (drop (length ws) (drop 0 xs)) (length xs) same

-- a window of the whole of a list
pub slice_range-all : (xs : List ℕ) (n : ℕ) → length xs ≡ n → slice_range xs 0 (0 + n) ≡ xs
slice_range-all xs n same = take_all (0 + n - 0) xs (omega arith)

both : (port : Bool) (x fill : ℕ) → x ≡ 0 → (if port then x else fill) ≡ (if port then 0 else fill)
both true x fill e = e
both false x fill e = refl

-- zeros that are filled but at ports
pub filled : (core : Core) (size fill : ℕ) (old new : List ℕ) → IsFilled size 0 old → length new ≡ length old
    → ((at : ℕ) → at < length new → slice_index new at ≡ (if is_port core at then slice_index old at else fill))
    → new ≡ map (λ at. if is_port core at then 0 else fill) (range_with_len 0 size)
filled core size fill old new zeros same each =
    let long : length new ≡ size = same ∙ zeros.len in
    fill_by_all (λ at. if is_port core at then 0 else fill) new size 0 long
    (λ k h. each k (omega arith)
    ∙ both (is_port core k) (slice_index old k) fill (zeros.items k 0 (omega (arith, zeros.len))))

-- bytes by their addresses
byte_at_each : (core : Core) (fill : ℕ) → fill < 256 → (from n k : ℕ)
    → slice_index (map (λ at. if is_port core at then 0 else fill) (range_with_len from n)) k < 256
byte_at_each core fill small from zero k = omega arith
byte_at_each core fill small from (suc n) zero = by_test (is_port core from)
  where
    by_test : (b : Bool) → (if b then 0 else fill) < 256
    by_test true = omega arith
    by_test false = small
byte_at_each core fill small from (suc n) (suc k) = byte_at_each core fill small (from + 1) n k

-- the state with one byte everywhere is one after a reset
pub reset_with_is_reset : (core : Core) (image : List ℕ) (fill : ℕ) (s : State) → fill < 256 → s ≡ reset_with core image fill
    → IsReset core image s
reset_with_is_reset core image fill s small e = record {
  begin = ap (λ (t : State). t.pc) e;
  same = ap (λ (t : State). t.core) e;
  flash = ap (λ (t : State). t.mem.flash) e;
  size = ap (λ (t : State). length t.mem.data) e
      ∙ length-map-range_with_len (λ at. if is_port core at then 0 else fill) 0 (data_size core);
  bytes = λ k. subst (λ (t : State). slice_index t.mem.data k < 256) (sym e) (byte_at_each core fill small 0 (data_size core) k);
}
