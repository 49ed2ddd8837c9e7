use Rattle.std.proofs.Common.{◌≡◌, ◌++◌, ◌∷◌, ◌/◌, ◌%◌, ℕ, List, [], length, get_or, ap, sym, ◌∙◌, arith, length-append, append_assoc}
use Rattle.ec_hex.specs.Bytes.{digit, digits_of}
use Rattle.ec_hex.proofs.Bytes.{digits_of-more}
use Rattle.ec_hex.proofs.line.Line.push_bytes.Goals as goal

pub loop-byte-preserved : goal.loop-byte-preserved
loop-byte-preserved c =
    let i = c.loop-byte.invariant in
    let byte : ℕ = get_or c.args.bytes.now c.loop-byte.byte-index 0 in
    let pushed : c.push-in-loop-byte.new.self ≡ c.loop-byte.self ++ digits_of (byte ∷ []) =
    rw (c.push-in-loop-byte.ensures, c.push.ensures, c.digit_of.ensures, c.digit_of-in-loop-byte.ensures)
    (append_assoc c.loop-byte.self (digit (byte / 16) ∷ []) (digit (byte % 16) ∷ [])) in
    record {
      text = pushed ∙ ap (λ (l : List ℕ). l ++ digits_of (byte ∷ [])) i.text
          ∙ append_assoc c.args.self.now _ _
          ∙ ap (λ (l : List ℕ). c.args.self.now ++ l) (sym (digits_of-more c.args.bytes.now c.loop-byte.byte-index c.loop-byte-test.true));
      size = omega (arith, ap length pushed, length-append c.loop-byte.self (digits_of (byte ∷ [])), i.size);
    }
