-- What a reader may rely on for `cut`, by how it ended.
use Rattle.std.specs.Prelude.{◌≡◌, ◌⊎◌, ℕ, pos, ◌<ℤ◌, true, false, not, IsTrue, [], take, Option, Some, None, IsSome}
use Rattle.std.specs.List.{AllByRecursion}
use Rattle.cgl_model.specs.declared.mip.Model.{Model as Mip}
use Rattle.cgl_model.specs.Feasible.{SamePoints}
use Rattle.cgl_model.specs.Inequality.{violation}
use Rattle.cgl_derive.specs.Derives.{Derives}
use Rattle.cgl_pool.specs.declared.kept.Kept.{Kept}
use Rattle.cgl_pool.specs.Task.{Task, listed_cuts}
use Rattle.cgl_deck.specs.DeckText.{deck_text}
use Rattle.cgl_deck.specs.Extended.{is_within_sizes}
use Rattle.cgl_decode.specs.Decode.{decode, Deck}
use Rattle.cgl_decode.specs.DeckResult.{deck_result}
use Rattle.cgl_outside.specs.Counted.{Calm, NoneFailed, OnlyPutFailed, OnlyWriteFailed}
use Rattle.cgl_outside.specs.Means.{IsFaulty, IsRead}
use Rattle.cgl_outside.specs.Shelf.{Held, file_of, with_file, Lacks, PartWritten, Rose}
use Rattle.cgl_outside.specs.Sink.{with_put}
use Rattle.cgl_outside.specs.View.{View}
use Rattle.cgl_app.specs.declared.refusal.CutFile.{CutFile}
use Rattle.cgl_app.specs.declared.refusal.CutFile.TheVariants.{Model, Start, Out, Proof}
use Rattle.cgl_app.specs.declared.refusal.Refusal.{Refusal}
use Rattle.cgl_app.specs.declared.refusal.Refusal.TheVariants.{ReadFault, WriteFault, OutputFault, Input, Named, NotAccepted, TooLarge, Memory}
use Rattle.cgl_app.specs.Accepts.{Accepts}
use Rattle.cgl_app.specs.CutOf.{book_of, cuts_of, extension, proofs_of, report_of, is_too_large}
use Rattle.cgl_app.specs.CutTask.{InForm, IsFaultyStart, IsCutTask}
use Rattle.cgl_app.specs.Meant.{cut_file}
use Rattle.cgl_words.specs.CommandLine.{CutWords}

-- the files after OUT, and after OUT and PROOF
abbrev pub with_out : CutWords → Held → Mip → Held
with_out c held n = with_file held c.out (deck_text n)

abbrev pub with_both : CutWords → Held → Mip → Task → Held
with_both c held n t = with_file (with_out c held n) c.proof (proofs_of t)

-- what each listed cut keeps: the fraction is by how much the point violates it, and is above 0; its derivation is right
pub record IsRightCut (t : Task) (k : Kept) : Type 0 where
  pub violation_is : k.candidate.violation ≡ violation k.candidate.cut t.setting.point
  pub violated : pos 0 <ℤ k.candidate.violation.num
  pub derived : Derives t.setting.model [] k.candidate.derivation k.candidate.cut

-- the model with the listed cuts, which is to be written
pub record IsToWrite (c : CutWords) (held : Held) (n : Mip) (t : Task) : Type 0 where
  pub task : IsCutTask c held t
  pub extended_is : extension t ≡ Some n
  pub small : is_too_large n t ≡ false

-- status 0: no call failed, OUT holds the deck with the listed cuts, PROOF their derivations, the output got the report, and all other files are as before
pub record Done (c : CutWords) (before after : View) : Type 0 where
  pub t : Task
  pub n : Mip
  pub written : IsToWrite c before.held n t
  pub calm : NoneFailed before after
  pub out_is : IsSome before.held → file_of after.held c.out ≡ Some (deck_text n)
  pub decodes : decode (deck_text n) ≡ Deck n  -- so OUT decodes to the model with the listed cuts
  pub proof_is : IsSome before.held → file_of after.held c.proof ≡ Some (proofs_of t)
  pub files : after.held ≡ with_both c before.held n t
  pub report : after.told ≡ with_put before.told (report_of t)
  pub cuts : AllByRecursion (IsRightCut t) (listed_cuts t)
  pub accepted : Accepts t.setting.model n (book_of t)  -- so a checker that is exact accepts OUT and PROOF
  pub same_points : SamePoints t.setting.model n

-- the files that are read before this one were read
abbrev pub ReadBefore : CutWords → Held → CutFile → Type 0
ReadBefore c held Model = Unit {0}
ReadBefore c held Start = (m : Mip) × IsRead held c.model deck_result m
ReadBefore c held Out = ⊥
ReadBefore c held Proof = ⊥

-- status 3, with the file that is named; nothing but the count of reads that failed has changed, nor that where there is no such file
pub record ReadStop (c : CutWords) (before after : View) (file : CutFile) : Type 0 where
  pub cause : Rose before.reads after.reads ⊎ Lacks before.held (cut_file c file)
  pub excused : Lacks before.held (cut_file c file) → after ≡ before
  pub rest : after ≡ record before { reads = after.reads }
  pub order : ReadBefore c before.held file

-- status 4, with the file that is named; no other call failed
pub data WriteStop (c : CutWords) (before after : View) : CutFile → Type 0 where
  AtOut : (n : Mip) (t : Task) → IsToWrite c before.held n t → OnlyWriteFailed before after
      → PartWritten before.held after.held c.out (deck_text n) → after.told ≡ before.told → WriteStop c before after Out
  AtProof : (n : Mip) (t : Task) → IsToWrite c before.held n t → OnlyWriteFailed before after
      → PartWritten (with_out c before.held n) after.held c.proof (proofs_of t) → after.told ≡ before.told → WriteStop c before after Proof

-- status 4, with the output; no other call failed, and both files are whole
pub record OutputStop (c : CutWords) (before after : View) : Type 0 where
  pub n : Mip
  pub t : Task
  pub written : IsToWrite c before.held n t
  pub failed : OnlyPutFailed before after
  pub files : after.held ≡ with_both c before.held n t
  pub kept : ℕ
  pub got : after.told ≡ with_put before.told (take kept (report_of t))

-- the file that is named has this fault
abbrev pub IsFirstFault : CutWords → Held → CutFile → ℕ → ℕ → Type 0
IsFirstFault c held Model line kind = IsFaulty held c.model deck_result line kind
IsFirstFault c held Start line kind = (m : Mip) × IsRead held c.model deck_result m × IsFaultyStart held c.start m line kind
IsFirstFault c held Out line kind = ⊥
IsFirstFault c held Proof line kind = ⊥

-- status 5, with the file that is named, its line and kind; nothing has changed
pub record InputStop (c : CutWords) (before after : View) (file : CutFile) (line kind : ℕ) : Type 0 where
  pub rest : after ≡ before
  pub first : IsFirstFault c before.held file line kind

-- the model with the listed cuts is beyond the limits, or a text to be written is too long
abbrev pub IsTooLarge : Task → Type 0
IsTooLarge t = (extension t ≡ None) ⊎ ((n : Mip) × (extension t ≡ Some n) × (is_too_large n t ≡ true))

-- the model with the listed cuts would have more than 2^20 rows or 2^22 entries
abbrev pub ExceedsSizes : Task → Type 0
ExceedsSizes t = IsTrue (not (is_within_sizes t.setting.model (cuts_of t)))

-- status 6; nothing has changed
pub record SizeStop (c : CutWords) (before after : View) : Type 0 where
  pub rest : after ≡ before
  pub t : Task
  pub task : IsCutTask c before.held t
  pub cause : IsTooLarge t
  pub sizes : extension t ≡ None → ExceedsSizes t

-- the answers of `cut`
abbrev pub CutAnswer : CutWords → View → View → Option (Refusal CutFile) → Type 0
CutAnswer c before after None = Done c before after
CutAnswer c before after (Some (ReadFault file)) = ReadStop c before after file
CutAnswer c before after (Some (WriteFault file)) = WriteStop c before after file
CutAnswer c before after (Some OutputFault) = OutputStop c before after
CutAnswer c before after (Some (Input file line kind)) = InputStop c before after file line kind
CutAnswer c before after (Some (Named cause model)) = ⊥
CutAnswer c before after (Some (NotAccepted unaccepted)) = ⊥
CutAnswer c before after (Some TooLarge) = SizeStop c before after
CutAnswer c before after (Some Memory) = after ≡ before

-- where the files are in form and no call fails: memory was refused, or the work is done, or it is refused as too large, exactly where it is
abbrev pub CutCompletes : CutWords → View → View → ℕ → Type 0
CutCompletes c before after status =
    (t : Task) → InForm c before.held t → Calm before after
    → (status ≡ 7) ⊎ ((IsTooLarge t → ⊥) × (status ≡ 0)) ⊎ (IsTooLarge t × (status ≡ 6))
