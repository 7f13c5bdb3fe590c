-- What callers may use of the files of a shelf and of the bytes of a sink.
use Rattle.std.specs.Prelude.{◌≡◌, ◌≢◌, ◌↔◌, ℕ, List, [], ◌++◌, IsSome, Option, Some}
use Rattle.cgl_outside.specs.Shelf.{Held, file_of, with_file, with_more}
use Rattle.cgl_outside.specs.Sink.{with_put}

-- a file that was written is found, more goes behind it, a second write replaces it, no other file changes, and whether the
-- files are told never changes
pub record KeepsFiles : Type 0 where
  pub found : (held : Held) (name bytes : List ℕ) → IsSome held → file_of (with_file held name bytes) name ≡ Some bytes
  pub others : (held : Held) (name other bytes : List ℕ) → other ≢ name → file_of (with_file held name bytes) other ≡ file_of held other
  pub again : (held : Held) (name a b : List ℕ) → with_file (with_file held name a) name b ≡ with_file held name b
  pub more : (held : Held) (name a b : List ℕ) → with_more (with_file held name a) name b ≡ with_file held name (a ++ b)
  pub more_twice : (held : Held) (name a b : List ℕ) → with_more (with_more held name a) name b ≡ with_more held name (a ++ b)
  pub more_found : (held : Held) (name old bytes : List ℕ) → file_of held name ≡ Some old
      → file_of (with_more held name bytes) name ≡ Some (old ++ bytes)
  pub more_others : (held : Held) (name other bytes : List ℕ) → other ≢ name → file_of (with_more held name bytes) other ≡ file_of held other
  pub told : (held : Held) (name bytes : List ℕ) → IsSome (with_file held name bytes) ↔ IsSome held
  pub more_told : (held : Held) (name bytes : List ℕ) → IsSome (with_more held name bytes) ↔ IsSome held
  pub told_by_file : (held : Held) (name bytes : List ℕ) → file_of held name ≡ Some bytes → IsSome held

-- two puts are one of both pieces, a put of nothing changes nothing, and whether the bytes are told never changes
pub record KeepsBytes : Type 0 where
  pub twice : (told : Option (List ℕ)) (a b : List ℕ) → with_put (with_put told a) b ≡ with_put told (a ++ b)
  pub nothing : (told : Option (List ℕ)) → with_put told [] ≡ told
  pub told : (told : Option (List ℕ)) (a : List ℕ) → IsSome (with_put told a) ↔ IsSome told
