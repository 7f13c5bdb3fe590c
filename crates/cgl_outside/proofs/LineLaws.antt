-- A line of a file, by the pieces that are read ahead.
use Rattle.std.proofs.Common.{◌≡◌, ◌≤◌, ◌<◌, ◌+◌, ◌-◌, inl, inr, ℕ, zero, suc, Bool, true, false, List, [], ◌∷◌, ◌++◌, Some, length, take, drop, get_or, refl, sym, ap, ◌∙◌, subst, arith, add-one, append-nil, length-take, length-drop}
use Rattle.std.proofs.lemmas.Bool.{cases_lt}
use Rattle.std.proofs.lemmas.List.{drop-drop, drop-take, get_or-take, get_or-drop, take_all, drop_all, length-take-le}
use Rattle.std.proofs.Math.Seq.{take-add}
use Rattle.cgl_text.specs.Text.{lines_of, most_bytes}
use Rattle.cgl_text.proofs.TextLaws.{line_found, last_line}
use Rattle.cgl_outside.specs.Front.{Front, Stands}
use Rattle.cgl_outside.specs.Line.{HasNoEnd, IsFirst, written}
use Rattle.cgl_outside.specs.Turns.{EndsAt, EndsHere, Ended, FoundSays, GoesOn, Keeps, Mid, TurnSays}
use Rattle.cgl_outside.specs.declared.line.Found.{Found}
use Rattle.cgl_outside.specs.declared.line.Found.TheVariants.{Line, TooLong, Over, End}

-- a front of a front
take_front : (n m : ℕ) (xs : List ℕ) → n ≤ m → take n (take m xs) ≡ take n xs
take_front zero m xs le = refl
take_front (suc n) zero xs le = absurd (omega arith)
take_front (suc n) (suc m) [] le = refl
take_front (suc n) (suc m) (x ∷ xs) le = ap (λ l. x ∷ l) (take_front n m xs (omega arith))

-- a list by the byte at a place
parts_at : (n b : ℕ) (xs : List ℕ) → n < length xs → get_or xs n 0 ≡ b → xs ≡ (take n xs ++ b ∷ []) ++ drop (suc n) xs
parts_at n b [] below at = absurd (omega arith)
parts_at zero b (x ∷ xs) below at = ap (λ y. y ∷ xs) at
parts_at (suc n) b (x ∷ xs) below at = ap (λ ys. x ∷ ys) (parts_at n b xs (omega arith) at)

-- n bytes were handed out of those that are ahead
pub stands_pass : (file : List ℕ) (old : Front) (n : ℕ) → n ≤ length old.ahead → Stands file old → Stands file (record old { done = old.done + n; ahead = drop n old.ahead })
stands_pass file old n le h =
    let more : n + (length old.ahead - n) ≡ length old.ahead = omega (arith, le) in
    let left : length (drop n old.ahead) ≡ length old.ahead - n = length-drop n old.ahead in
    record {
      piece = ap (drop n) (h.piece ∙ ap (λ k. take k (drop old.done file)) (sym more))
          ∙ drop-take n (length old.ahead - n) (drop old.done file)
          ∙ ap (λ k. take k (drop n (drop old.done file))) (sym left)
          ∙ ap (take (length (drop n old.ahead))) (drop-drop n old.done file);
      ended = λ e. sym (drop-drop n old.done file) ∙ ap (drop n) (h.ended e);
    }

module _ (longest start size : ℕ) (file : List ℕ) (old : Front) (stands : Stands file old) (done : old.done ≡ start + size) where
  behind : drop old.done file ≡ drop size (drop start file)
  behind = ap (λ k. drop k file) done ∙ sym (drop-drop size start file)

  ahead_is : old.ahead ≡ take (length old.ahead) (drop size (drop start file))
  ahead_is = stands.piece ∙ ap (take (length old.ahead)) behind

  byte_is : (k : ℕ) → k < length old.ahead → get_or old.ahead k 0 ≡ get_or (drop start file) (size + k) 0
  byte_is k below =
      ap (λ l. get_or l k 0) ahead_is ∙ get_or-take (length old.ahead) (drop size (drop start file)) k 0 below ∙ get_or-drop size (drop start file) k 0

  room : size ≤ length (drop start file) → size + length old.ahead ≤ length (drop start file)
  room there =
      let a : length old.ahead ≡ length (take (length old.ahead) (drop size (drop start file))) = ap length ahead_is in
      let b = length-take (length old.ahead) (drop size (drop start file)) in
      let e = length-drop size (drop start file) in
      omega (arith, a, b, e, there)

  no_end_more : (n : ℕ) → n ≤ length old.ahead → HasNoEnd (drop start file) size → HasNoEnd old.ahead n → HasNoEnd (drop start file) (size + n)
  no_end_more n le before here k below =
      elim (cases_lt k size) [
        | inl l ↦ before k l
        | inr g ↦
            let j : size + (k - size) ≡ k = omega (arith, g) in
            let l : k - size < n = omega (arith, g, below) in
            λ is. here (k - size) l (byte_is (k - size) (omega (arith, l, le)) ∙ ap (λ m. get_or (drop start file) m 0) j ∙ is)
      ]

  front_is : (n : ℕ) → n ≤ length old.ahead → take n old.ahead ≡ take n (drop size (drop start file))
  front_is n le = ap (take n) ahead_is ∙ take_front n (length old.ahead) (drop size (drop start file)) le

  line_is : (n : ℕ) (line next : List ℕ) → n ≤ length old.ahead → line ≡ take size (drop start file) → next ≡ line ++ take n old.ahead → next ≡ take (size + n) (drop start file)
  line_is n line next le is e = e ∙ ap (λ l. l ++ take n old.ahead) is ∙ ap (λ l. take size (drop start file) ++ l) (front_is n le) ∙ sym (take-add size n (drop start file))

  -- the line goes on
  pub mid_more : (new : Front) (line next : List ℕ) → Mid longest size (drop start file) line → GoesOn old new → Keeps longest size (length old.ahead) old.ahead line next
      → Mid longest (size + length old.ahead) (drop start file) next
  mid_more new line next mid on keeps = record {
    there = room mid.there;
    none = no_end_more (length old.ahead) (omega arith) mid.none on.none;
    kept = λ short. line_is (length old.ahead) line next (omega arith) (mid.kept (omega (arith, short))) (keeps short);
  }

  -- an LF ends the line
  found_at : (new : Front) (line : List ℕ) (n : ℕ) → Mid longest size (drop start file) line → EndsAt old new n → IsFirst start (drop start file) (take (size + n) (drop start file)) true new.done
  found_at new line n mid at =
      let within : size + n < length (drop start file) = omega (arith, room mid.there, at.there) in
      let byte : get_or (drop start file) (size + n) 0 ≡ 10 = sym (byte_is n at.there) ∙ at.at in
      let len : length (take (size + n) (drop start file)) ≡ size + n = length-take-le (size + n) (drop start file) (omega (arith, within)) in
      let now : new.done ≡ old.done + n + 1 = ap (λ (f : Front). f.done) at.new_is in
      let step : new.done - start ≡ size + n + 1 = omega (arith, now, done) in
      record {
        lines = line_found (drop start file) (size + n) within (no_end_more n (omega (arith, at.there)) mid.none at.none) byte
            ∙ ap (λ k. take (size + n) (drop start file) ∷ lines_of (drop k (drop start file))) (sym step);
        is = parts_at (size + n) 10 (drop start file) within byte
            ∙ ap (λ k. written (take (size + n) (drop start file)) true ++ drop k (drop start file)) (sym (step ∙ add-one (size + n)));
        size = omega (arith, now, done, len);
        within = subst (λ k. k ≤ most_bytes) (sym now) at.within;
        last = λ e. cc;
      }

  -- the file ends
  found_end : (new : Front) (line : List ℕ) → (old.ahead ≡ [] → old.ended ≡ true) → old.done ≤ most_bytes → Mid longest size (drop start file) line → EndsHere old new size
      → IsFirst start (drop start file) (take (size + 0) (drop start file)) false new.done
  found_end new line met small mid here =
      let gone : drop size (drop start file) ≡ [] = sym behind ∙ stands.ended (met here.empty) ∙ here.empty in
      let z : length (drop size (drop start file)) ≡ 0 = ap length gone in
      let e = length-drop size (drop start file) in
      let all : length (drop start file) ≡ size = omega (arith, z, e, mid.there) in
      let whole : take (size + 0) (drop start file) ≡ drop start file = take_all (size + 0) (drop start file) (omega (arith, all)) in
      let now : new.done ≡ old.done = ap (λ (f : Front). f.done) here.new_is in
      let past : drop (new.done - start) (drop start file) ≡ [] = drop_all (new.done - start) (drop start file) (omega (arith, now, done, all)) in
      let len : length (take (size + 0) (drop start file)) ≡ size = ap length whole ∙ all in
      let bare : written (take (size + 0) (drop start file)) false ≡ drop start file = append-nil (take (size + 0) (drop start file)) ∙ whole in
      record {
        lines = last_line (drop start file) size (omega (arith, all, here.some)) (omega (arith, all)) mid.none
            ∙ ap (λ l. l ∷ []) (sym whole) ∙ ap (λ l. take (size + 0) (drop start file) ∷ lines_of l) (sym past);
        is = sym (append-nil (drop start file)) ∙ ap (λ l. l ++ []) (sym bare) ∙ ap (λ l. written (take (size + 0) (drop start file)) false ++ l) (sym past);
        size = omega (arith, now, done, len);
        within = subst (λ k. k ≤ most_bytes) (sym now) small;
        last = λ e. sym whole;
      }

  first_is : (new : Front) (line : List ℕ) (n : ℕ) (has_lf : Bool) → (old.ahead ≡ [] → old.ended ≡ true) → old.done ≤ most_bytes → Mid longest size (drop start file) line
      → Ended size old new n has_lf → IsFirst start (drop start file) (take (size + n) (drop start file)) has_lf new.done × (n ≤ length old.ahead) × (length (take (size + n) (drop start file)) ≡ size + n)
  first_is new line n true met small mid at =
      let within : size + n < length (drop start file) = omega (arith, room mid.there, at.there) in
      (found_at new line n mid at, omega (arith, at.there), length-take-le (size + n) (drop start file) (omega (arith, within)))
  first_is new line n false met small mid here =
      let is : IsFirst start (drop start file) (take (size + n) (drop start file)) false new.done = subst (λ k. IsFirst start (drop start file) (take (size + k) (drop start file)) false new.done) (sym here.1) (found_end new line met small mid here.0) in
      (is, omega (arith, here.1), length-take-le (size + n) (drop start file) (omega (arith, here.1, mid.there)))

  -- what a turn found, as a fact of the file
  pub says_of : (new : Front) (line next : List ℕ) (found : Found) → (old.ahead ≡ [] → old.ended ≡ true) → old.done ≤ most_bytes → Mid longest size (drop start file) line
      → TurnSays longest size old new line next (Some found) → FoundSays longest start (drop start file) next new.done found
  says_of new line next (Line has_lf) met small mid says =
      let first = first_is new line says.0 has_lf met small mid says.1 in
      let is : next ≡ take (size + says.0) (drop start file) = line_is says.0 line next first.1 (mid.kept (omega (arith, says.2))) says.3 in
      (subst (λ l. IsFirst start (drop start file) l has_lf new.done) (sym is) first.0, omega (arith, ap length is, first.2, says.2))
  says_of new line next TooLong met small mid says =
      let first = first_is new line says.0 says.1 met small mid says.2 in
      record { line = take (size + says.0) (drop start file); has_lf = says.1; first = first.0; longer = omega (arith, first.2, says.3) }
  says_of new line next Over met small mid says =
      let split : size + (most_bytes - old.done) ≡ most_bytes - start = omega (arith, done, small) in
      record {
        there = omega (arith, room mid.there, says.there, split);
        none = subst (HasNoEnd (drop start file)) split (no_end_more (most_bytes - old.done) (omega (arith, says.there)) mid.none says.none);
      }
  says_of new line next End met small mid says =
      let none : size ≡ 0 = says.1 in
      sym (ap (λ k. drop k (drop start file)) none) ∙ sym behind ∙ stands.ended (met says.0) ∙ says.0
