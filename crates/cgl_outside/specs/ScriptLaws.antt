-- Laws of scripts, for the proofs of the crates above: from what each step says to what came of a script, and from that to what
-- a reader may rely on.
use Rattle.std.specs.Result.{IsErrOf, result_err}
use Rattle.std.proofs.lemmas.List.{take_all}
use Rattle.std.proofs.Common.{Result, Ok, Err, OnOk, IfErr, ◌≡◌, ◌⊎◌, ◌<◌, ◌≤◌, ◌+◌, ℕ, zero, suc, List, [], ◌∷◌, ◌++◌, take, length, get_or, Option, Some, None, IsSome, ap, sym, subst, refl, ◌∙◌, inl, inr, ⊎_elim, arith, append_assoc, append-nil, add-one}
use Rattle.cgl_outside.specs.declared.errors.ReadError.{ReadError}
use Rattle.cgl_outside.specs.declared.errors.ReadError.TheVariants.{Fault as BadLine, ReadFault as NoRead, Memory as NoMemory}
use Rattle.cgl_outside.specs.Counted.{NoneFailed, OnlyPutFailed, OnlyWriteFailed}
use Rattle.cgl_outside.specs.Means.{Holds, IsFaulty, IsRead, MeansFault}
use Rattle.cgl_outside.specs.Refused.{PutRefused, ReadRefused, WriteRefused, read_refusal}
use Rattle.cgl_outside.specs.Says.{Part, Says, Whole, joined}
use Rattle.cgl_outside.specs.Script.{Came, Ends, PutFailed, Puts, ReadFailed, Script, Shows, Works, WriteFailed, Writes, by_meaning, reads_file}
use Rattle.cgl_outside.specs.Shelf.{Held, Lacks, PartWritten, Rose, file_of, with_file}
use Rattle.cgl_outside.specs.Sink.{with_put}
use Rattle.cgl_outside.specs.View.{View, view}

-- ---- a script, from its first step

same_view : (h h2 : Held) (r r2 w w2 : ℕ) (t t2 : Option (List ℕ)) (f f2 : ℕ) → h ≡ h2 → r ≡ r2 → w ≡ w2 → t ≡ t2 → f ≡ f2
    → view h r w t f ≡ view h2 r2 w2 t2 f2
same_view h h2 r r2 w w2 t t2 f f2 eh er ew et ef =
    ap (λ x. view x r w t f) eh ∙ ap (λ x. view h2 x w t f) er ∙ ap (λ x. view h2 r2 x t f) ew ∙ ap (λ x. view h2 r2 w2 x f) et ∙ ap (λ x. view h2 r2 w2 t2 x) ef

-- a script from another view of the same
from_same : {R : Type 0} (memory : R) (s : Script R) (b b2 a : View) (end : Option R) → b2 ≡ b → Came memory s b2 a end → Came memory s b a end
from_same memory s b b2 a end e came = let P : View → Type 0 = λ x. Came memory s x a end in subst P e came

pub read_refused : {A R : Type 0} (memory unread : R) (faulty : ℕ → ℕ → R) (name : List ℕ) (meaning : List ℕ → Result A (ℕ × ℕ)) (next : A → Script R) (h h2 : Held) (r r2 w w2 : ℕ) (t : Option (List ℕ)) (f : ℕ) (refusal : R)
    → h2 ≡ h → w2 ≡ w → ReadRefused memory unread faulty h r r2 name meaning refusal
    → Came memory (reads_file unread faulty name meaning next) (view h r w t f) (view h2 r2 w2 t f) (Some refusal)
unfolding Came reads_file
read_refused memory unread faulty name meaning next h h2 r r2 w w2 t f refusal eh ew (inl why) =
    inl (ap (λ x. Some x) why.0, record { cause = why.1; excused = why.2; rest = same_view _ _ _ _ _ _ _ _ _ _ eh refl ew refl refl })
read_refused memory unread faulty name meaning next h h2 r r2 w w2 t f refusal eh ew (inr (inl why)) =
    inr (inl (ap (λ x. Some x) why.0, same_view _ _ _ _ _ _ _ _ _ _ eh why.1 ew refl refl))
read_refused {A} memory unread faulty name meaning next h h2 r r2 w w2 t f refusal eh ew (inr (inr why)) =
    let P : Result A (ℕ × ℕ) → Type 0 = λ o. Came memory (by_meaning faulty next o) (view h r w t f) (view h2 r2 w2 t f) (Some refusal) in
    inr (inr (why.2.text, why.2.shows, subst P (sym why.2.is) (ap (λ x. Some x) why.3, same_view _ _ _ _ _ _ _ _ _ _ eh why.4 ew refl refl)))

pub read_on : {A R : Type 0} (memory unread : R) (faulty : ℕ → ℕ → R) (name : List ℕ) (meaning : List ℕ → Result A (ℕ × ℕ)) (next : A → Script R) (x : A) (h h2 : Held) (r r2 w w2 : ℕ) (t : Option (List ℕ)) (f : ℕ) (a : View) (end : Option R)
    → h2 ≡ h → r2 ≡ r → w2 ≡ w → IsRead h name meaning x
    → Came memory (next x) (view h2 r2 w2 t f) a end → Came memory (reads_file unread faulty name meaning next) (view h r w t f) a end
unfolding Came reads_file
read_on {A} memory unread faulty name meaning next x h h2 r r2 w w2 t f a end eh er ew read came =
    let P : Result A (ℕ × ℕ) → Type 0 = λ o. Came memory (by_meaning faulty next o) (view h r w t f) a end in
    inr (inr (read.text, read.shows, subst P (sym read.is) (from_same memory (next x) _ _ a end (same_view _ _ _ _ _ _ _ _ _ _ eh er ew refl refl) came)))

pub worked : {R : Type 0} (memory : R) (next : Script R) (b a : View) (end : Option R) → Came memory next b a end → Came memory (Works next) b a end
unfolding Came
worked memory next b a end came = inr came

pub no_memory : {R : Type 0} (memory : R) (next : Script R) (b a : View) (end : Option R) → end ≡ Some memory → a ≡ b → Came memory (Works next) b a end
unfolding Came
no_memory memory next b a end e same = inl (e, same)

pub file_refused : {R : Type 0} (memory unwritten : R) (name bytes text : List ℕ) (next : Script R) (h h2 : Held) (r r2 w w2 : ℕ) (t : Option (List ℕ)) (f : ℕ) (refusal : R)
    → bytes ≡ text → r2 ≡ r → WriteRefused unwritten h h2 w w2 name bytes refusal
    → Came memory (Writes unwritten name text next) (view h r w t f) (view h2 r2 w2 t f) (Some refusal)
unfolding Came
file_refused memory unwritten name bytes text next h h2 r r2 w w2 t f refusal e er why =
    let P : List ℕ → Type 0 = λ x. PartWritten h h2 name x in
    inl (ap (λ x. Some x) why.is, record { cause = why.cause; file = subst P e why.file_is; rest = same_view _ _ _ _ _ _ _ _ _ _ refl er refl refl refl })

pub file_written : {R : Type 0} (memory unwritten : R) (name bytes text : List ℕ) (next : Script R) (h h2 : Held) (r r2 w w2 : ℕ) (t : Option (List ℕ)) (f : ℕ) (a : View) (end : Option R)
    → bytes ≡ text → h2 ≡ with_file h name bytes → r2 ≡ r → w2 ≡ w
    → Came memory next (view h2 r2 w2 t f) a end → Came memory (Writes unwritten name text next) (view h r w t f) a end
unfolding Came
file_written memory unwritten name bytes text next h h2 r r2 w w2 t f a end e eh er ew came =
    inr (from_same memory next _ _ a end (same_view _ _ _ _ _ _ _ _ _ _ (eh ∙ ap (with_file h name) e) er ew refl refl) came)

pub put_refused : {R : Type 0} (memory unput : R) (bytes text : List ℕ) (next : Script R) (h : Held) (r w : ℕ) (t t2 : Option (List ℕ)) (f f2 : ℕ) (refusal : R)
    → bytes ≡ text → PutRefused unput t t2 f f2 bytes refusal
    → Came memory (Puts unput text next) (view h r w t f) (view h r w t2 f2) (Some refusal)
unfolding Came
put_refused memory unput bytes text next h r w t t2 f f2 refusal e why =
    inl (ap (λ x. Some x) why.is, record { cause = why.cause; kept = why.kept; got = why.got ∙ ap (λ x. with_put t (take why.kept x)) e; rest = refl })

pub put_on : {R : Type 0} (memory unput : R) (bytes text : List ℕ) (next : Script R) (h : Held) (r w : ℕ) (t t2 : Option (List ℕ)) (f f2 : ℕ) (a : View) (end : Option R)
    → bytes ≡ text → t2 ≡ with_put t bytes → f2 ≡ f
    → Came memory next (view h r w t2 f2) a end → Came memory (Puts unput text next) (view h r w t f) a end
unfolding Came
put_on memory unput bytes text next h r w t t2 f f2 a end e et ef came =
    inr (from_same memory next _ _ a end (same_view _ _ _ _ _ _ _ _ _ _ refl refl refl (et ∙ ap (with_put t) e) ef) came)

pub ends : {R : Type 0} (memory : R) (b : View) → Came memory Ends b b None
unfolding Came
ends memory b = (refl, refl)

pub ended : {R : Type 0} (memory : R) (s : Script R) (b a : View) (end : Option R) (refusal : R) → end ≡ Some refusal → Came memory s b a (Some refusal) → Came memory s b a end
ended {R} memory s b a end refusal e came = let P : Option R → Type 0 = λ x. Came memory s b a x in subst P (sym e) came

-- a put that is the last step
pub put_came : {T R : Type 0} (memory unput : R) (result : Result T R) (bytes text : List ℕ) (h : Held) (r w : ℕ) (t t2 : Option (List ℕ)) (f f2 : ℕ)
    → bytes ≡ text → OnOk result (t2 ≡ with_put t bytes) → OnOk result (f2 ≡ f) → IfErr result (PutRefused unput t t2 f f2 bytes)
    → Came memory (Puts unput text Ends) (view h r w t f) (view h r w t2 f2) (result_err result)
put_came memory unput (Ok x) bytes text h r w t t2 f f2 e et ef why = put_on memory unput bytes text Ends h r w t t2 f f2 _ None e et ef (ends memory _)
put_came memory unput (Err refusal) bytes text h r w t t2 f f2 e et ef why = put_refused memory unput bytes text Ends h r w t t2 f f2 refusal e why

-- why a file could not be read
pub unread_by : {A R : Type 0} (memory unread : R) (faulty : ℕ → ℕ → R) (held : Held) (reads now : ℕ) (name : List ℕ) (meaning : List ℕ → Result A (ℕ × ℕ)) (error : ReadError) (refusal : R)
    → refusal ≡ read_refusal memory unread faulty error → MeansFault held name meaning error → (IsErrOf {T = A} (Err error) NoRead → Rose reads now ⊎ Lacks held name)
    → IsErrOf {T = A} (Err error) NoRead ⊎ (now ≡ reads) → (Lacks held name → now ≡ reads) → ReadRefused memory unread faulty held reads now name meaning refusal
unread_by memory unread faulty held reads now name meaning (BadLine line kind) refusal is fault rose same excused =
    inr (inr (line, kind, fault, is, ⊎_elim (λ e. absurd (cc)) (λ e. e) same))
unread_by memory unread faulty held reads now name meaning NoRead refusal is fault rose same excused = inl (is, rose refl, excused)
unread_by memory unread faulty held reads now name meaning NoMemory refusal is fault rose same excused = inr (inl (is, ⊎_elim (λ e. absurd (cc)) (λ e. e) same))

-- ---- what may come of a read

pub data ReadCame {A R : Type 0} (memory unread : R) (faulty : ℕ → ℕ → R) (name : List ℕ) (meaning : List ℕ → Result A (ℕ × ℕ)) (next : A → Script R) (b a : View) (end : Option R) : Type 0 where
  Unread : end ≡ Some unread → ReadFailed name b a → ReadCame memory unread faulty name meaning next b a end
  Short : end ≡ Some memory → a ≡ b → ReadCame memory unread faulty name meaning next b a end
  Wrong : (line kind : ℕ) → IsFaulty b.held name meaning line kind → end ≡ Some (faulty line kind) → a ≡ b
      → ReadCame memory unread faulty name meaning next b a end
  Right : (x : A) → IsRead b.held name meaning x → Came memory (next x) b a end → ReadCame memory unread faulty name meaning next b a end

by_text : {A R : Type 0} (memory unread : R) (faulty : ℕ → ℕ → R) (name : List ℕ) (meaning : List ℕ → Result A (ℕ × ℕ)) (next : A → Script R) (b a : View) (end : Option R) (text : List ℕ)
    → Shows b.held name text → (o : Result A (ℕ × ℕ)) → meaning text ≡ o → Came memory (by_meaning faulty next o) b a end
    → ReadCame memory unread faulty name meaning next b a end
unfolding Came
by_text memory unread faulty name meaning next b a end text shows (Err (line, kind)) e came =
    Wrong line kind (record { text = text; shows = shows; is = e }) came.0 came.1
by_text memory unread faulty name meaning next b a end text shows (Ok x) e came = Right x (record { text = text; shows = shows; is = e }) came

pub read_came : {A R : Type 0} (memory unread : R) (faulty : ℕ → ℕ → R) (name : List ℕ) (meaning : List ℕ → Result A (ℕ × ℕ)) (next : A → Script R) (b a : View) (end : Option R)
    → Came memory (reads_file unread faulty name meaning next) b a end → ReadCame memory unread faulty name meaning next b a end
unfolding Came reads_file
read_came memory unread faulty name meaning next b a end (inl x) = Unread x.0 x.1
read_came memory unread faulty name meaning next b a end (inr (inl x)) = Short x.0 x.1
read_came memory unread faulty name meaning next b a end (inr (inr x)) = by_text memory unread faulty name meaning next b a end x.0 x.1 (meaning x.0) refl x.2

-- ---- a file that is there and in form

told_by_file : (held : Held) (name bytes : List ℕ) → file_of held name ≡ Some bytes → IsSome held
unfolding file_of
told_by_file None name bytes e = cc
told_by_file (Some files) name bytes e = refl

two_texts : (text other : List ℕ) (o : Option (List ℕ)) → o ≡ Some text → o ≡ Some other → text ≡ other
two_texts text other o e f = cc

ok_is_no_err : {A : Type 0} (x : A) (fault : ℕ × ℕ) (o : Result A (ℕ × ℕ)) → o ≡ Ok x → o ≡ Err fault → ⊥
ok_is_no_err x fault o e f = cc

ok_inj : {A : Type 0} (x y : A) (o : Result A (ℕ × ℕ)) → o ≡ Ok x → o ≡ Ok y → x ≡ y
ok_inj x y o e f = cc

-- what such a file shows is its text
shown_is : {A : Type 0} (held : Held) (name : List ℕ) (meaning : List ℕ → Result A (ℕ × ℕ)) (x : A) (text : List ℕ) → (h : Holds held name meaning x) → Shows held name text → meaning text ≡ Ok x
shown_is held name meaning x text h shows =
    ap meaning (sym (two_texts h.text text _ h.there (shows (told_by_file held name h.text h.there)))) ∙ h.means

-- it has no fault
pub no_fault : {A : Type 0} (held : Held) (name : List ℕ) (meaning : List ℕ → Result A (ℕ × ℕ)) (x : A) (line kind : ℕ) → Holds held name meaning x → IsFaulty held name meaning line kind → ⊥
no_fault held name meaning x line kind h fault = ok_is_no_err x (line, kind) (meaning fault.text) (shown_is held name meaning x fault.text h fault.shows) fault.is

-- it is not lacking
pub no_lack : {A : Type 0} (held : Held) (name : List ℕ) (meaning : List ℕ → Result A (ℕ × ℕ)) (x : A) → Holds held name meaning x → Lacks held name → ⊥
no_lack held name meaning x h lacks = let bad : ◌≡◌ {A = Option (List ℕ)} (Some h.text) None = sym h.there ∙ lacks.none in cc

-- two readings of it mean the same
pub same_meaning : {A : Type 0} (held : Held) (name : List ℕ) (meaning : List ℕ → Result A (ℕ × ℕ)) (x y : A) → Holds held name meaning x → IsRead held name meaning y → x ≡ y
same_meaning held name meaning x y h got = ok_inj x y (meaning got.text) (shown_is held name meaning x got.text h got.shows) got.is

-- ---- which failed calls are counted

pub none_failed : (held : Held) (told : Option (List ℕ)) (b a : View) → a ≡ record b { held = held; told = told } → NoneFailed b a
none_failed held told b a same = record { reads = ap (λ v. v.reads) same; writes = ap (λ v. v.writes) same; faults = ap (λ v. v.faults) same }

-- a file that is not there leaves all as it was
pub unread_untouched : (name : List ℕ) (b a : View) → ReadFailed name b a → Lacks b.held name → a ≡ b
unread_untouched name b a why lacks = why.rest ∙ ap (λ n. record b { reads = n }) (why.excused lacks)

-- the write failed after others that changed the files to these
pub only_write_failed : (held : Held) (name bytes : List ℕ) (b a : View) → WriteFailed name bytes (record b { held = held }) a → OnlyWriteFailed b a
only_write_failed held name bytes b a why = record { writes = why.cause; reads = ap (λ v. v.reads) why.rest; faults = ap (λ v. v.faults) why.rest }

pub only_put_failed : (held : Held) (bytes : List ℕ) (b a : View) → PutFailed bytes (record b { held = held }) a → OnlyPutFailed b a
only_put_failed held bytes b a why = record { faults = why.cause; reads = ap (λ v. v.reads) why.rest; writes = ap (λ v. v.writes) why.rest }

-- ---- pieces that are put one after another

put_twice : (told : Option (List ℕ)) (a b : List ℕ) → with_put (with_put told a) b ≡ with_put told (a ++ b)
unfolding with_put
put_twice None a b = refl
put_twice (Some old) a b = ap (λ x. Some x) (append_assoc old a b)

put_nothing : (told : Option (List ℕ)) → told ≡ with_put told []
unfolding with_put
put_nothing None = refl
put_nothing (Some old) = ap (λ x. Some x) (sym (append-nil old))

-- a text and a part of the next is a part of both
part_behind : (a b : List ℕ) (kept : ℕ) → (k : ℕ) × (a ++ take kept b ≡ take k (a ++ b))
part_behind [] b kept = (kept, refl)
part_behind (x ∷ a) b kept = let inner = part_behind a b kept in (suc inner.0, ap (λ ys. x ∷ ys) inner.1)

part_front : (a b : List ℕ) (kept : ℕ) → (k : ℕ) × (take kept a ≡ take k (a ++ b))
part_front [] b zero = (0, refl)
part_front [] b (suc kept) = (0, refl)
part_front (x ∷ a) b zero = (0, refl)
part_front (x ∷ a) b (suc kept) = let inner = part_front a b kept in (suc inner.0, ap (λ ys. x ∷ ys) inner.1)

joined_part : (pieces : List (List ℕ)) (i kept : ℕ) (piece : List ℕ) → i < length pieces → piece ≡ get_or pieces i []
    → (k : ℕ) × (joined (take i pieces) ++ take kept piece ≡ take k (joined pieces))
joined_part [] i kept piece within is = grind arith
joined_part (p ∷ rest) zero kept piece within is =
    let part = part_front p (joined rest) kept in (part.0, ap (take kept) is ∙ part.1)
joined_part (p ∷ rest) (suc i) kept piece within is =
    let inner = joined_part rest i kept piece (omega (arith, within)) is in
    let part = part_behind p (joined rest) inner.0 in
    (part.0, append_assoc p (joined (take i rest)) (take kept piece) ∙ ap (λ ys. p ++ ys) inner.1 ∙ part.1)

joined_suc : (pieces : List (List ℕ)) (i : ℕ) (piece : List ℕ) → i < length pieces → piece ≡ get_or pieces i []
    → joined (take (suc i) pieces) ≡ joined (take i pieces) ++ piece
joined_suc [] i piece within is = grind arith
joined_suc (p ∷ rest) zero piece within is = append-nil p ∙ sym is
joined_suc (p ∷ rest) (suc i) piece within is =
    ap (λ ys. p ++ ys) (joined_suc rest i piece (omega (arith, within)) is) ∙ sym (append_assoc p (joined (take i rest)) piece)

-- no piece was put
pub none_said : (pieces : List (List ℕ)) (told : Option (List ℕ)) → told ≡ with_put told (joined (take 0 pieces))
none_said pieces told = put_nothing told

-- one more piece was put
pub more_said : (pieces : List (List ℕ)) (i : ℕ) (piece : List ℕ) (told mid now : Option (List ℕ)) → i < length pieces → piece ≡ get_or pieces i []
    → mid ≡ with_put told (joined (take i pieces)) → now ≡ with_put mid piece → now ≡ with_put told (joined (take (i + 1) pieces))
more_said pieces i piece told mid now within is so_far put =
    put ∙ ap (λ t. with_put t piece) so_far ∙ put_twice told (joined (take i pieces)) piece
    ∙ ap (with_put told) (sym (joined_suc pieces i piece within is) ∙ ap (λ n. joined (take n pieces)) (sym (add-one i)))

-- a part of one more piece was put, and the put failed
pub part_said : (pieces : List (List ℕ)) (i kept : ℕ) (piece : List ℕ) (told mid now : Option (List ℕ)) (faults count : ℕ) → i < length pieces → piece ≡ get_or pieces i []
    → mid ≡ with_put told (joined (take i pieces)) → now ≡ with_put mid (take kept piece) → Rose faults count → Says told now faults count (joined pieces)
part_said pieces i kept piece told mid now faults count within is so_far put rose =
    let part = joined_part pieces i kept piece within is in
    Part part.0 (put ∙ ap (λ t. with_put t (take kept piece)) so_far ∙ put_twice told (joined (take i pieces)) (take kept piece) ∙ ap (with_put told) part.1) rose

pub all_said : (pieces : List (List ℕ)) (i : ℕ) (told now : Option (List ℕ)) (faults count : ℕ) → length pieces ≤ i
    → now ≡ with_put told (joined (take i pieces)) → count ≡ faults → Says told now faults count (joined pieces)
all_said pieces i told now faults count past so_far same =
    Whole (so_far ∙ ap (λ ps. with_put told (joined ps)) (take_all i pieces past)) same
