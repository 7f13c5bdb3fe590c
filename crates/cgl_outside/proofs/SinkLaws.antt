-- Laws of what an output got.
use Rattle.std.proofs.Common.{◌≡◌, IsSome, ℕ, List, ◌++◌, [], take, Some, None, Option, ap, ◌∙◌, sym, refl, append-nil, append_assoc}
use Rattle.cgl_outside.specs.MemSink.{MemBytes, with_call, with_fault}
use Rattle.cgl_outside.specs.Shelf.{risen}
use Rattle.cgl_outside.specs.Sink.{with_put}

-- nothing was put
pub put_none : (old bytes : List ℕ) → Some old ≡ with_put (Some old) (take 0 bytes)
unfolding with_put
put_none old bytes = ap (λ x. Some x) (sym (append-nil old))

pub put_twice : (told : Option (List ℕ)) (a b : List ℕ) → with_put (with_put told a) b ≡ with_put told (a ++ b)
unfolding with_put
put_twice None a b = refl
put_twice (Some old) a b = ap (λ x. Some x) (append_assoc old a b)

pub put_empty : (told : Option (List ℕ)) → with_put told [] ≡ told
unfolding with_put
put_empty None = refl
put_empty (Some old) = ap (λ x. Some x) (append-nil old)

pub put_told : (told : Option (List ℕ)) (a : List ℕ) → IsSome told → IsSome (with_put told a)
unfolding with_put
put_told None a h = h
put_told (Some old) a h = refl

pub put_told_before : (told : Option (List ℕ)) (a : List ℕ) → IsSome (with_put told a) → IsSome told
unfolding with_put
put_told_before None a h = h
put_told_before (Some old) a h = refl

pub put_begun : (s old : MemBytes) (bytes : List ℕ) (n : ℕ) → s ≡ old → n ≡ risen s.puts → record s { bytes = bytes; puts = n } ≡ record (with_call old) { bytes = bytes }
put_begun s old bytes n e call = ap (λ n. record s { bytes = bytes; puts = n }) call ∙ ap (λ s. record (with_call s) { bytes = bytes }) e

pub put_failed : (s old : MemBytes) (bytes front : List ℕ) (n m : ℕ) → s ≡ old → bytes ≡ old.bytes ++ front → n ≡ risen s.puts → m ≡ risen s.faults
    → record s { bytes = bytes; puts = n; faults = m } ≡ record (with_fault (with_call old)) { bytes = old.bytes ++ front }
put_failed s old bytes front n m e is call fault =
    ap (λ m. record s { bytes = bytes; puts = n; faults = m }) fault
    ∙ ap (λ n. record (with_fault (record s { puts = n })) { bytes = bytes }) call
    ∙ ap (λ s. record (with_fault (with_call s)) { bytes = bytes }) e
    ∙ ap (λ xs. record (with_fault (with_call old)) { bytes = xs }) is
