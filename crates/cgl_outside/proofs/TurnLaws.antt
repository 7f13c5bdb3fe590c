-- The laws of lines in the form that the goals of their reader have.
use Rattle.std.proofs.Common.{zero, suc, ◌∷◌, ◌++◌, length-append, length-take, ◌≡◌, ◌≤◌, ◌<◌, ◌+◌, ◌-◌, ◌⊎◌, inl, inr, Some, IsSome, ℕ, Bool, true, false, List, [], length, take, drop, refl, sym, ap, ◌∙◌, subst, arith}
use Rattle.std.proofs.Math.Seq.{drop-length}
use Rattle.std.proofs.lemmas.List.{get_or-take, length-take-le}
use Rattle.cgl_text.specs.Text.{most_bytes}
use Rattle.cgl_outside.specs.Shelf.{Held, file_of}
use Rattle.cgl_outside.specs.Front.{Front, IsPast, Stands}
use Rattle.cgl_outside.specs.Line.{HasNoEnd, IsShaped}
use Rattle.cgl_outside.specs.Turns.{Bare, Ended, FoundSays, GoesOn, Keeps, LeavesOff, Mid, Shaped, TurnSays}
use Rattle.cgl_outside.specs.declared.line.Found.{Found}
use Rattle.cgl_outside.specs.declared.line.Found.TheVariants.{Line, TooLong, Over, End}
use Rattle.cgl_outside.proofs.LineLaws.{stands_pass, mid_more, says_of}

pub turn_says : (longest start from size before : ℕ) (file : List ℕ) (old new : Front) (line next : List ℕ) (found : Found)
    → Stands file old → (old.ahead ≡ [] → old.ended ≡ true) → from ≡ start → from ≤ before → old.done ≡ before → size ≡ before - from → before ≤ most_bytes
    → Mid longest (before - from) (drop from file) line → TurnSays longest size old new line next (Some found) → FoundSays longest start (drop start file) next new.done found
turn_says longest start from size before file old new line next found stands met is later done size_is small mid says =
    let at : old.done ≡ from + size = omega (arith, done, size_is, later) in
    let within : old.done ≤ most_bytes = omega (arith, done, small) in
    let own : Mid longest size (drop from file) line = subst (λ n. Mid longest n (drop from file) line) (sym size_is) mid in
    subst (λ n. FoundSays longest n (drop n file) next new.done found) is (says_of longest from size file old stands at new line next found met within own says)

pub turn_mid : (longest from size before : ℕ) (file : List ℕ) (old new : Front) (line next : List ℕ)
    → Stands file old → from ≤ before → old.done ≡ before → size ≡ before - from → Mid longest (before - from) (drop from file) line
    → GoesOn old new → Keeps longest size (length old.ahead) old.ahead line next → Mid longest (new.done - from) (drop from file) next
turn_mid longest from size before file old new line next stands later done size_is mid on keeps =
    let at : old.done ≡ from + size = omega (arith, done, size_is, later) in
    let own : Mid longest size (drop from file) line = subst (λ n. Mid longest n (drop from file) line) (sym size_is) mid in
    let now : new.done ≡ old.done + length old.ahead = ap (λ (f : Front). f.done) on.new_is in
    let sum : size + length old.ahead ≡ new.done - from = omega (arith, now, at) in
    subst (λ n. Mid longest n (drop from file) next) sum (mid_more longest from size file old stands at new line next own on keeps)

ended_stands : (size : ℕ) (file : List ℕ) (old new : Front) (n : ℕ) (has_lf : Bool) → Stands file old → Ended size old new n has_lf → Stands file new
ended_stands size file old new n true stands at =
    let sum : old.done + (n + 1) ≡ old.done + n + 1 = omega arith in
    let passed = stands_pass file old (n + 1) (omega (arith, at.there)) stands in
    subst (Stands file) (sym (at.new_is ∙ ap (λ k. record old { done = k; ahead = drop (n + 1) old.ahead }) (sym sum))) passed
ended_stands size file old new n false stands here = subst (Stands file) (sym here.0.new_is) stands

pub goes_on_stands : (file : List ℕ) (old new : Front) → Stands file old → GoesOn old new → Stands file new
goes_on_stands file old new stands on =
    let passed = stands_pass file old (length old.ahead) (omega arith) stands in
    subst (Stands file) (sym (on.new_is ∙ ap (λ l. record old { done = old.done + length old.ahead; ahead = l }) (sym (drop-length old.ahead)))) passed

pub turn_stands : (longest size : ℕ) (file : List ℕ) (old new : Front) (line next : List ℕ) (found : Found) → Stands file old → TurnSays longest size old new line next (Some found) → LeavesOff found (Stands file new)
turn_stands longest size file old new line next (Line has_lf) stands says = ended_stands size file old new says.0 has_lf stands says.1
turn_stands longest size file old new line next TooLong stands says = tt
turn_stands longest size file old new line next Over stands says = tt
turn_stands longest size file old new line next End stands says = tt

-- so does each file that is told
pub leaves_off : (held : Held) (name : List ℕ) (new : Front) (found : Found) → ((file : List ℕ) → file_of held name ≡ Some file → LeavesOff found (Stands file new)) → name ≡ new.name
    → LeavesOff found ((file : List ℕ) → file_of held new.name ≡ Some file → Stands file new)
leaves_off held name new (Line has_lf) all same = λ file is. all file (ap (file_of held) same ∙ is)
leaves_off held name new TooLong all same = tt
leaves_off held name new Over all same = tt
leaves_off held name new End all same = tt

clean_behind : (line ahead : List ℕ) (n : ℕ) → n ≤ length ahead → HasNoEnd line (length line) → HasNoEnd ahead n → HasNoEnd (line ++ take n ahead) (length (line ++ take n ahead))
clean_behind [] ahead n le before here k below = let l : k < n = omega (arith, below, length-take n ahead) in λ e. here k l (sym (get_or-take n ahead k 0 l) ∙ e)
clean_behind (x ∷ xs) ahead n le before here zero below = before 0 (omega arith)
clean_behind (x ∷ xs) ahead n le before here (suc k) below = clean_behind xs ahead n le (λ j l. before (suc j) (omega (arith, l))) here k (omega (arith, below))

bare_behind : (size n : ℕ) (ahead line next : List ℕ) → n ≤ length ahead → (length line ≡ size) × HasNoEnd line (length line) → HasNoEnd ahead n → next ≡ line ++ take n ahead
    → (length next ≡ size + n) × HasNoEnd next (length next)
bare_behind size n ahead line next le before here is =
    let len : length next ≡ size + n = omega (arith, ap length is, length-append line (take n ahead), length-take-le n ahead le, before.0) in
    (len, subst (λ l. HasNoEnd l (length l)) (sym is) (clean_behind line ahead n le before.1 here))

pub turn_bare : (longest from size before : ℕ) (old new : Front) (line next : List ℕ) → from ≤ before → old.done ≡ before → size ≡ before - from
    → Bare longest (before - from) line → GoesOn old new → Keeps longest size (length old.ahead) old.ahead line next → Bare longest (new.done - from) next
turn_bare longest from size before old new line next later done size_is bare on keeps short =
    let now : new.done ≡ old.done + length old.ahead = ap (λ (f : Front). f.done) on.new_is in
    let sum : size + length old.ahead ≡ new.done - from = omega (arith, now, done, size_is, later) in
    let kept : size + length old.ahead ≤ longest = omega (arith, sum, short) in
    let own = bare (omega (arith, kept, size_is)) in
    let both = bare_behind size (length old.ahead) old.ahead line next (omega arith) (omega (arith, own.0, size_is), own.1) on.none (keeps kept) in
    (both.0 ∙ sum, both.1)

-- a line that ended, also where its file is not told
line_shape : (from size : ℕ) (old new : Front) (line next : List ℕ) (n : ℕ) (has_lf : Bool) → from ≤ old.done → size ≡ old.done - from → old.done ≤ most_bytes → (old.ahead ≡ [] → old.ended ≡ true)
    → (length line ≡ size) × HasNoEnd line (length line) → Ended size old new n has_lf → next ≡ line ++ take n old.ahead
    → IsShaped from next has_lf new.done × (new.done ≤ most_bytes) × (has_lf ≡ false → IsPast new)
line_shape from size old new line next n true later is small met own at e =
    let now : new.done ≡ old.done + n + 1 = ap (λ (f : Front). f.done) at.new_is in
    let both = bare_behind size n old.ahead line next (omega (arith, at.there)) own at.none e in (
      record { clean = both.1; size = omega (arith, now, both.0, is, later); moves = omega (arith, now, later) },
      omega (arith, now, at.within),
      λ bare. cc,
    )
line_shape from size old new line next n false later is small met own here e =
    let now : new.done ≡ old.done = ap (λ (f : Front). f.done) here.0.new_is in
    let both = bare_behind size n old.ahead line next (omega (arith, here.1)) own (λ k l. absurd (omega (arith, l, here.1))) e in (
      record { clean = both.1; size = omega (arith, now, both.0, is, later, here.1); moves = omega (arith, now, is, here.0.some) },
      omega (arith, now, small),
      λ bare. subst IsPast (sym here.0.new_is) record { empty = here.0.empty; ended = met here.0.empty },
    )

long_shape : (longest from size : ℕ) (old new : Front) (n : ℕ) (has_lf : Bool) → from ≤ old.done → size ≡ old.done - from → old.done ≤ most_bytes → Ended size old new n has_lf → longest < size + n
    → (from + longest < new.done) × (new.done ≤ most_bytes)
long_shape longest from size old new n true later is small at longer =
    let now : new.done ≡ old.done + n + 1 = ap (λ (f : Front). f.done) at.new_is in
    (omega (arith, now, later, is, longer), omega (arith, now, at.within))
long_shape longest from size old new n false later is small here longer =
    let now : new.done ≡ old.done = ap (λ (f : Front). f.done) here.0.new_is in
    (omega (arith, now, later, is, longer, here.1), omega (arith, now, small))

found_shape : (longest from size : ℕ) (old new : Front) (line next : List ℕ) (found : Found) → from ≤ old.done → size ≡ old.done - from → old.done ≤ most_bytes → (old.ahead ≡ [] → old.ended ≡ true)
    → Bare longest size line → TurnSays longest size old new line next (Some found) → Shaped longest from next new found
found_shape longest from size old new line next (Line has_lf) later is small met bare says =
    line_shape from size old new line next says.0 has_lf later is small met (bare (omega (arith, says.2))) says.1 says.3
found_shape longest from size old new line next TooLong later is small met bare says =
    let long = long_shape longest from size old new says.0 says.1 later is small says.2 says.3 in record { longer = long.0; within = long.1 }
found_shape longest from size old new line next Over later is small met bare says = tt
found_shape longest from size old new line next End later is small met bare says =
    let now : new.done ≡ old.done = ap (λ (f : Front). f.done) says.2 in omega (arith, now, says.1, is, later)

pub turn_shape : (longest start from size before : ℕ) (old new : Front) (line next : List ℕ) (found : Found) → from ≡ start → from ≤ before → old.done ≡ before → size ≡ before - from → before ≤ most_bytes
    → (old.ahead ≡ [] → old.ended ≡ true) → Bare longest (before - from) line → TurnSays longest size old new line next (Some found) → Shaped longest start next new found
turn_shape longest start from size before old new line next found start_is later done size_is small met bare says =
    subst (λ k. Shaped longest k next new found) start_is
    (found_shape longest from size old new line next found (omega (arith, later, done)) (omega (arith, done, size_is)) (omega (arith, done, small)) met (subst (λ n. Bare longest n line) (sym size_is) bare) says)

-- where nothing is ahead, no turn goes on, and one before a line finds the end
pub nothing_goes_on : (old new : Front) → old.ahead ≡ [] → GoesOn old new → ⊥
nothing_goes_on old new empty on = let z : length old.ahead ≡ 0 = ap length empty in omega (arith, z, on.some)

no_line : (size : ℕ) (old new : Front) (n : ℕ) (has_lf : Bool) → old.ahead ≡ [] → size ≡ 0 → Ended size old new n has_lf → ⊥
no_line size old new n true empty none at = let z : length old.ahead ≡ 0 = ap length empty in omega (arith, z, at.there)
no_line size old new n false empty none here = omega (arith, none, here.0.some)

pub end_found : (longest size : ℕ) (old new : Front) (line next : List ℕ) (found : Found) → old.ahead ≡ [] → size ≡ 0 → TurnSays longest size old new line next (Some found) → found ≡ End
end_found longest size old new line next (Line has_lf) empty none says = absurd (no_line size old new says.0 has_lf empty none says.1)
end_found longest size old new line next TooLong empty none says = absurd (no_line size old new says.0 says.1 empty none says.2)
end_found longest size old new line next Over empty none says = let z : length old.ahead ≡ 0 = ap length empty in absurd (omega (arith, z, says.there))
end_found longest size old new line next End empty none says = refl

-- the first read found the file, or an earlier one did
pub found_by_now : (held now : Held) (first old : Front) → now ≡ held
    → (old ≡ first) ⊎ (first.ahead ≡ [] → first.ended ≡ false → IsSome held → IsSome (file_of held first.name))
    → (old.ahead ≡ [] → old.ended ≡ false → IsSome now → IsSome (file_of now old.name))
    → first.ahead ≡ [] → first.ended ≡ false → IsSome held → IsSome (file_of held first.name)
found_by_now held now first old same (inl is) here = subst (λ f. f.ahead ≡ [] → f.ended ≡ false → IsSome held → IsSome (file_of held f.name)) is (subst (λ h. old.ahead ≡ [] → old.ended ≡ false → IsSome h → IsSome (file_of h old.name)) same here)
found_by_now held now first old same (inr earlier) here = earlier
