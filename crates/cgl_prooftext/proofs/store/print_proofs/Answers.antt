use Rattle.std.proofs.Common.{◌≡◌, ℕ, List, subst, ◌≤◌, ◌∙◌, ap, refl, Err, IsErrOf, Ok, arith}
use Rattle.cgl_outside.specs.declared.errors.WriteError.{WriteError}
use Rattle.cgl_outside.specs.Shelf.{Held, PartWritten, with_file}
use Rattle.cgl_prooftext.proofs.store.print_proofs.Goals as goal

ok_is_no_error : {T P : Type 0} {x : T} {e : WriteError} → IsErrOf (Ok x) e → P
ok_is_no_error h = absurd (cc)

memory_is_no_fault : {T P : Type 0} → IsErrOf {T = T} (Err WriteError.Memory) WriteError.WriteFault → P
memory_is_no_fault h = absurd (cc)

fault_is_no_memory : {T P : Type 0} → IsErrOf {T = T} (Err WriteError.WriteFault) WriteError.Memory → P
fault_is_no_memory h = absurd (cc)

same_count : (n : ℕ) → n ≤ n
same_count n = omega arith

part_of : (held now : Held) (name written whole : List ℕ) → written ≡ whole → PartWritten held now name written → PartWritten held now name whole
part_of held now name written whole is part = subst (λ (z : List ℕ). PartWritten held now name z) is part

pub returns-in_default : goal.returns-in_default
returns-in_default g c = record {
  text = tt;
  stands = memory_is_no_fault;
  fault = memory_is_no_fault;
  memory = λ h. (refl, refl);
  writes = tt;
  later = same_count _;
  reads = refl;
}

pub returns-in-Ok-write_whole : goal.returns-in-Ok-write_whole
returns-in-Ok-write_whole g c =
    let made = rw (c.as_slice-shared.ensures, c.as_slice-cuts.ensures) at c.in-Ok.ensures in
    record {
      text = c.in-Ok-write_whole.ensures.ok ∙ ap (with_file (g.S.Shelf.held c.args.shelf.now) c.args.name.now) (c.deref.ensures.value ∙ made);
      stands = ok_is_no_error;
      fault = ok_is_no_error;
      memory = ok_is_no_error;
      writes = c.in-Ok-write_whole.ensures.ok_writes;
      later = c.in-Ok-write_whole.ensures.later;
      reads = c.in-Ok-write_whole.ensures.reads;
    }

pub returns : goal.returns
returns g c =
    let made = rw (c.as_slice-shared.ensures, c.as_slice-cuts.ensures) at c.in-Ok.ensures in
    record {
      text = tt;
      stands = λ h. part_of _ _ _ _ _ (c.deref.ensures.value ∙ made) c.in-Err.ensures.stands;
      fault = λ h. c.in-Err.ensures.fault;
      memory = fault_is_no_memory;
      writes = tt;
      later = c.in-Err.ensures.later;
      reads = c.in-Err.ensures.reads;
    }
