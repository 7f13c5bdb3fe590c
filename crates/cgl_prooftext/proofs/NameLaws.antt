-- The last letter of a name.
use Rattle.std.proofs.Common.{◌≡◌, ℕ, zero, suc, ◌+◌, ◌-◌, ◌<◌, ◌==◌, ◌≢◌, [], ◌∷◌, Option, Some, None, if◌then◌else◌, refl, length, get_or, arith, ◌∙◌, sym, subst}
use Rattle.std.proofs.lemmas.Bool.Decides.{nat_tests}
use Rattle.cgl_model.specs.declared.places.End.{End}
use Rattle.cgl_model.specs.declared.places.End.TheVariants.{Lower, Upper}
use Rattle.cgl_prooftext.specs.LineResult.{end_in}
use Rattle.cgl_prooftext.specs.ProofText.{Text}

abbrev pub end_of : ℕ → Option End
end_of b = if b == 76 then Some Lower else if b == 85 then Some Upper else None

end_at : (i : ℕ) (text : Text) → length text ≡ i + 1 → end_in text ≡ end_of (get_or text i 0)
end_at i [] h = absurd (omega arith)
end_at zero (b ∷ []) h = refl
end_at (suc i) (b ∷ []) h = absurd (omega arith)
end_at zero (b ∷ d ∷ text) h = absurd (omega arith)
end_at (suc i) (b ∷ d ∷ text) h = end_at i (d ∷ text) (omega arith)

pub end_is : (text : Text) (letter : ℕ) → 0 < length text → letter ≡ get_or text (length text - 1) 0 → end_in text ≡ end_of letter
end_is text letter some is =
    let at : length text ≡ (length text - 1) + 1 = omega arith in
    subst (λ b. end_in text ≡ end_of b) (sym is) (end_at (length text - 1) text at)

pub lower : (text : Text) (letter : ℕ) → 0 < length text → letter ≡ get_or text (length text - 1) 0 → letter ≡ 76 → end_in text ≡ Some Lower
lower text letter some at is = subst (λ b. end_in text ≡ end_of b) is (end_is text letter some at)

pub upper : (text : Text) (letter : ℕ) → 0 < length text → letter ≡ get_or text (length text - 1) 0 → letter ≡ 85 → end_in text ≡ Some Upper
upper text letter some at is = subst (λ b. end_in text ≡ end_of b) is (end_is text letter some at)

other : (letter : ℕ) → letter ≢ 76 → letter ≢ 85 → end_of letter ≡ None
other letter first second = grind (arith, nat_tests)

pub none : (text : Text) (letter : ℕ) → 0 < length text → letter ≡ get_or text (length text - 1) 0 → letter ≢ 76 → letter ≢ 85 → end_in text ≡ None
none text letter some at first second = end_is text letter some at ∙ other letter first second
