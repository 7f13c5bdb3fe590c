-- Two numbers as texts: the longer one is larger, and of two of one length the first digit in which they differ decides.
use Rattle.std.proofs.Common.{◌≡◌, ℕ, ◌+◌, ◌-◌, ◌*◌, ◌<◌, ◌≤◌, ◌≢◌, Bool, true, false, ◌==◌, ◌||◌, ◌&&◌, nat_lt, [], ◌∷◌, ◌∙◌, refl, sym, ap, length, arith, ◌⊎◌, inl, inr, Some}
use Rattle.std.specs.List.{fold, list_all}
use Rattle.std.proofs.lemmas.Bool.{lt-ltb}
use Rattle.std.proofs.lemmas.Bool.Decides.{nat_tests}
use Rattle.std.proofs.lemmas.Cmp.{same_from_slice_cmp_tested}
use Rattle.std.specs.Ordering.{nat_cmp, is_lt, is_some_and}
use Rattle.std.specs.Cmp.Lexicographic.{slice_partial_cmp}
use Rattle.cgl_num.specs.NumberText.{is_digit, natural}
use Rattle.cgl_prooftext.specs.LineResult.{is_natural}
use Rattle.cgl_prooftext.specs.ProofText.{Text}

-- the number of these digits behind those of n
abbrev continued : ℕ → Text → ℕ
continued n text = fold (λ n b. 10 * n + (b - 48)) n text

abbrev are_digits : Text → Bool
are_digits text = list_all is_digit text

digit_range : (b : ℕ) (rest : Bool) → (is_digit b && rest) ≡ true → (48 ≤ b) × (b ≤ 57) × (rest ≡ true)
digit_range b rest h = grind (arith, nat_tests)

grows : (n : ℕ) (text : Text) → n ≤ continued n text
grows n [] = omega arith
grows n (b ∷ text) = let more : 10 * n + (b - 48) ≤ continued (10 * n + (b - 48)) text = grows (10 * n + (b - 48)) text in omega arith

stays_below : (m n : ℕ) (s t : Text) → m < n → length s ≤ length t → are_digits s ≡ true → continued m s < continued n t
stays_below m n [] t less short digits = let more : n ≤ continued n t = grows n t in omega arith
stays_below m n (b ∷ s) [] less short digits = absurd (omega arith)
stays_below m n (b ∷ s) (d ∷ t) less short digits =
    let range : (48 ≤ b) × (b ≤ 57) × (are_digits s ≡ true) = digit_range b (are_digits s) digits in
    stays_below (10 * m + (b - 48)) (10 * n + (d - 48)) s t (omega arith) (omega arith) range.2

natural_digits : (text : Text) → is_natural text ≡ true → are_digits text ≡ true
natural_digits [] h = refl
natural_digits (b ∷ []) h = grind (arith, nat_tests)
natural_digits (b ∷ d ∷ text) h = grind (arith, nat_tests)

first_digit : (b d : ℕ) (text : Text) → is_natural (b ∷ d ∷ text) ≡ true → 48 < b
first_digit b d text h = grind (arith, nat_tests)

longer : (s t : Text) → is_natural s ≡ true → is_natural t ≡ true → length s < length t → natural s < natural t
longer [] t s_is t_is short = absurd (cc)
longer (b ∷ s) [] s_is t_is short = absurd (omega arith)
longer (b ∷ s) (d ∷ []) s_is t_is short = absurd (omega arith)
longer (b ∷ s) (d ∷ e ∷ t) s_is t_is short =
    let large : 48 < d = first_digit d e t t_is in
    stays_below 0 (10 * 0 + (d - 48)) (b ∷ s) (e ∷ t) (omega arith) (omega arith) (natural_digits (b ∷ s) s_is)

at_most : {m n : ℕ} → m < n → m ≤ n
at_most h = omega arith

less_or_more : (m n : ℕ) → m ≢ n → (m < n) ⊎ (n < m)
less_or_more m n apart = grind (arith, nat_tests)

not_below : (m n : ℕ) → n ≤ m → nat_lt m n ≡ false
not_below m n h = grind (arith, nat_tests)

pub by_length : (s t : Text) → is_natural s ≡ true → is_natural t ≡ true → length s ≢ length t → nat_lt (length s) (length t) ≡ nat_lt (natural s) (natural t)
by_length s t s_is t_is apart =
    elim (less_or_more (length s) (length t) apart) [
      | inl less ↦ lt-ltb (length s) (length t) less ∙ sym (lt-ltb (natural s) (natural t) (longer s t s_is t_is less))
      | inr more ↦ not_below (length s) (length t) (omega arith) ∙ sym (not_below (natural s) (natural t) (at_most (longer t s t_is s_is more)))
    ]

-- the first byte in which they differ decides
abbrev pub comes_before : Text → Text → Bool
comes_before [] [] = false
comes_before [] (d ∷ t) = true
comes_before (b ∷ s) [] = false
comes_before (b ∷ s) (d ∷ t) = nat_lt b d || (b == d && comes_before s t)

three : (b d : ℕ) → (b < d) ⊎ ((b ≡ d) ⊎ (d < b))
three b d = grind (arith, nat_tests)

at_first : (b d : ℕ) (behind : Bool) → b < d → (nat_lt b d || (b == d && behind)) ≡ true
at_first b d behind h = grind (arith, nat_tests)

at_same : (b d : ℕ) (behind : Bool) → b ≡ d → (nat_lt b d || (b == d && behind)) ≡ behind
at_same b d behind h = grind (arith, nat_tests)

at_second : (b d : ℕ) (behind : Bool) → d < b → (nat_lt b d || (b == d && behind)) ≡ false
at_second b d behind h = grind (arith, nat_tests)

compared : (n : ℕ) (s t : Text) → length s ≡ length t → are_digits s ≡ true → are_digits t ≡ true → comes_before s t ≡ nat_lt (continued n s) (continued n t)
compared n [] [] same s_is t_is = sym (not_below n n (omega arith))
compared n [] (d ∷ t) same s_is t_is = absurd (omega arith)
compared n (b ∷ s) [] same s_is t_is = absurd (omega arith)
compared n (b ∷ s) (d ∷ t) same s_is t_is =
    let first : (48 ≤ b) × (b ≤ 57) × (are_digits s ≡ true) = digit_range b (are_digits s) s_is in
    let second : (48 ≤ d) × (d ≤ 57) × (are_digits t ≡ true) = digit_range d (are_digits t) t_is in
    elim (three b d) [
      | inl less ↦ at_first b d (comes_before s t) less
          ∙ sym (lt-ltb (continued n (b ∷ s)) (continued n (d ∷ t)) (stays_below (10 * n + (b - 48)) (10 * n + (d - 48)) s t (omega arith) (omega arith) first.2))
      | inr (inl is) ↦ at_same b d (comes_before s t) is ∙ compared (10 * n + (b - 48)) s t (omega arith) first.2 second.2
          ∙ ap (λ x. nat_lt (continued (10 * n + (b - 48)) s) (continued (10 * n + (x - 48)) t)) is
      | inr (inr more) ↦ at_second b d (comes_before s t) more
          ∙ sym (not_below (continued n (b ∷ s)) (continued n (d ∷ t)) (at_most (stays_below (10 * n + (d - 48)) (10 * n + (b - 48)) t s (omega arith) (omega arith) second.2)))
    ]

pub by_bytes : (s t : Text) (r : Bool) → is_natural s ≡ true → is_natural t ≡ true → length s ≡ length t → r ≡ comes_before s t → r ≡ nat_lt (natural s) (natural t)
by_bytes s t r s_is t_is same is = is ∙ compared 0 s t same (natural_digits s s_is) (natural_digits t t_is)

pub before_is : (s t : Text) (r : Bool) → r ≡ is_some_and is_lt (slice_partial_cmp (λ x y. Some (nat_cmp x y)) s t) → r ≡ comes_before s t
before_is s t r h = same_from_slice_cmp_tested nat_cmp is_lt comes_before refl (λ _ _. refl) (λ _ _. refl) (λ x y xs ys o h. grind (arith, nat_tests)) s t r h
