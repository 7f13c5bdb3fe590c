-- What a result says, case by case, and the counts of failed calls.
use Rattle.std.proofs.Common.{Bool, true, false, IsTrue, ◌≡◌, ◌⊎◌, inl, inr, ℕ, List, ◌≤◌, Result, Ok, Err, OnOk, OnErr, Option, Some, None, IsSome, arith, refl}
use Rattle.std.specs.Option.{IsNone, is_some}
use Rattle.cgl_outside.specs.Shelf.{Files, Held, file_of, Lacks, Counts, Rose, risen}

pub each_ok : {T E A : Type 0} (result : Result T E) → A → OnOk result A
each_ok (Ok value) a = a
each_ok (Err error) a = tt

pub each_err : {T E A : Type 0} (result : Result T E) → A → OnErr result A
each_err (Ok value) a = tt
each_err (Err error) a = a

pub some_not_none : {A : Type 0} (o : Option A) → IsSome o → IsNone o → ⊥
some_not_none None some none = cc
some_not_none (Some a) some none = cc

pub false_not_true : (b : Bool) → b ≡ false → IsTrue b → ⊥
false_not_true b is_false is_true = cc

pub found_by : {A : Type 0} (o : Option A) (a : A) → Some a ≡ o → IsSome o
found_by None a e = cc
found_by (Some b) a e = refl

pub no_excuse : {A B : Type 0} → (B → ⊥) → A ⊎ B → A
no_excuse never (inl a) = a
no_excuse never (inr b) = absurd (never b)

pub same_later : (before now : ℕ) → now ≡ before → before ≤ now
same_later before now e = omega arith

-- a file that is lacking is not there
pub not_found : (held : Held) (name : List ℕ) → Lacks held name → IsSome (file_of held name) → ⊥
not_found held name lacks found = let none = lacks.none in cc

by_option : {A : Type 0} {X : Type 0} (o : Option X) → (IsSome o → A) → (o ≡ None → A) → A
by_option None found lacking = lacking refl
by_option (Some x) found lacking = found refl

-- the file is there, or lacking
pub by_file : {A : Type 0} (held : Held) (name : List ℕ) → IsSome held → (IsSome (file_of held name) → A) → (Lacks held name → A) → A
by_file held name told found lacking = by_option (file_of held name) found (λ none. lacking record { told = told; none = none })

pub lacks_by : (files : Files) (name : List ℕ) → (IsSome (file_of (Some files) name) → ⊥) → Lacks (Some files) name
lacks_by files name never = by_file (Some files) name refl (λ found. absurd (never found)) (λ lacks. lacks)

rises : (n : ℕ) → n ≤ risen n
rises n = omega arith

-- the call was let through
pub no_fault : {T E : Type 0} {value : T} {excuse : Type 0} (before now : ℕ) → now ≡ before → Counts {T = T} {E = E} before now (Ok value) excuse
no_fault before now same = record { later = same_later before now same; ok = same; failed = tt; excused = λ _. same }

-- the call failed, and no file was lacking
pub one_fault : {T E : Type 0} {error : E} {excuse : Type 0} (before now : ℕ) → now ≡ risen before → (excuse → ⊥) → Counts {T = T} {E = E} before now (Err error) excuse
one_fault before now rose never = record { later = rw rose (rises before); ok = tt; failed = inl rose; excused = λ e. absurd (never e) }

-- the file was lacking
pub excused : {T E : Type 0} {error : E} {excuse : Type 0} (before now : ℕ) → now ≡ before → excuse → Counts {T = T} {E = E} before now (Err error) excuse
excused before now same is = record { later = same_later before now same; ok = tt; failed = inr is; excused = λ _. same }

-- a count with one more rose
rose_once : (before now : ℕ) → now ≡ risen before → Rose before now
rose_once before now once = same_later (risen before) now once

pub rose_or : {excuse : Type 0} (before now : ℕ) → (now ≡ risen before) ⊎ excuse → Rose before now ⊎ excuse
rose_or before now (inl once) = inl (rose_once before now once)
rose_or before now (inr is) = inr is

-- a call that is listed keeps some number of bytes
pub keeps : (fault : Option ℕ) → is_some fault ≡ true → (keep : ℕ) × (fault ≡ Some keep)
keeps None listed = cc
keeps (Some keep) listed = (keep, refl)

-- a call that is not listed
pub keeps_none : (fault : Option ℕ) → is_some fault ≡ false → fault ≡ None
keeps_none None unlisted = refl
keeps_none (Some keep) unlisted = cc
