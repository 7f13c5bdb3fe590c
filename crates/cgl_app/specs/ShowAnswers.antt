-- What a reader may rely on for `show`, by how it ended.
use Rattle.std.specs.Prelude.{◌≡◌, ◌⊎◌, ℕ, true, false, take, Option, Some, None, IsSome}
use Rattle.cgl_model.specs.declared.mip.Model.{Model as Mip}
use Rattle.cgl_deck.specs.DeckText.{deck_text}
use Rattle.cgl_decode.specs.Decode.{decode, Deck}
use Rattle.cgl_decode.specs.DeckResult.{deck_result}
use Rattle.cgl_outside.specs.Counted.{Calm, NoneFailed, OnlyPutFailed, OnlyWriteFailed}
use Rattle.cgl_outside.specs.Means.{Holds, IsFaulty, IsRead}
use Rattle.cgl_outside.specs.Shelf.{Held, file_of, with_file, Lacks, PartWritten, Rose}
use Rattle.cgl_outside.specs.Sink.{with_put}
use Rattle.cgl_outside.specs.View.{View}
use Rattle.cgl_app.specs.declared.refusal.ShowFile.{ShowFile}
use Rattle.cgl_app.specs.declared.refusal.ShowFile.TheVariants.{Model, Out}
use Rattle.cgl_app.specs.declared.refusal.Refusal.{Refusal}
use Rattle.cgl_app.specs.declared.refusal.Refusal.TheVariants.{ReadFault, WriteFault, OutputFault, Input, Named, NotAccepted, TooLarge, Memory}
use Rattle.cgl_app.specs.CutOf.{is_too_long}
use Rattle.cgl_app.specs.Report.{counts_text}
use Rattle.cgl_words.specs.CommandLine.{ShowWords}

-- the model that was read, whose text is to be written
pub record IsToShow (s : ShowWords) (held : Held) (m : Mip) : Type 0 where
  pub read : IsRead held s.model deck_result m
  pub small : is_too_long (deck_text m) ≡ false

-- status 0: no call failed, OUT holds the canonical text of the model, which decodes to it, the output got the counts, and all other files are as before
pub record Shown (s : ShowWords) (before after : View) : Type 0 where
  pub m : Mip
  pub written : IsToShow s before.held m
  pub calm : NoneFailed before after
  pub out_is : IsSome before.held → file_of after.held s.out ≡ Some (deck_text m)
  pub decodes : decode (deck_text m) ≡ Deck m
  pub files : after.held ≡ with_file before.held s.out (deck_text m)
  pub report : after.told ≡ with_put before.told (counts_text m)

-- status 3; nothing but the count of reads that failed has changed, nor that where there is no such file
pub record ShowReadStop (s : ShowWords) (before after : View) : Type 0 where
  pub cause : Rose before.reads after.reads ⊎ Lacks before.held s.model
  pub excused : Lacks before.held s.model → after ≡ before
  pub rest : after ≡ record before { reads = after.reads }

-- status 4, with the file; no other call failed
pub record ShowWriteStop (s : ShowWords) (before after : View) : Type 0 where
  pub m : Mip
  pub written : IsToShow s before.held m
  pub failed : OnlyWriteFailed before after
  pub part : PartWritten before.held after.held s.out (deck_text m)
  pub told : after.told ≡ before.told

-- status 4, with the output; no other call failed, and the file is whole
pub record ShowOutputStop (s : ShowWords) (before after : View) : Type 0 where
  pub m : Mip
  pub written : IsToShow s before.held m
  pub failed : OnlyPutFailed before after
  pub files : after.held ≡ with_file before.held s.out (deck_text m)
  pub kept : ℕ
  pub got : after.told ≡ with_put before.told (take kept (counts_text m))

-- status 5, with the line and kind of the deck's first fault; nothing has changed
pub record ShowInputStop (s : ShowWords) (before after : View) (line kind : ℕ) : Type 0 where
  pub rest : after ≡ before
  pub faulty : IsFaulty before.held s.model deck_result line kind

-- status 6: the text has more than 2^30 bytes; nothing has changed
pub record ShowSizeStop (s : ShowWords) (before after : View) : Type 0 where
  pub rest : after ≡ before
  pub m : Mip
  pub read : IsRead before.held s.model deck_result m
  pub cause : is_too_long (deck_text m) ≡ true

-- the answers of `show`
abbrev pub ShowAnswer : ShowWords → View → View → Option (Refusal ShowFile) → Type 0
ShowAnswer s before after None = Shown s before after
ShowAnswer s before after (Some (ReadFault Model)) = ShowReadStop s before after
ShowAnswer s before after (Some (ReadFault Out)) = ⊥
ShowAnswer s before after (Some (WriteFault Model)) = ⊥
ShowAnswer s before after (Some (WriteFault Out)) = ShowWriteStop s before after
ShowAnswer s before after (Some OutputFault) = ShowOutputStop s before after
ShowAnswer s before after (Some (Input Model line kind)) = ShowInputStop s before after line kind
ShowAnswer s before after (Some (Input Out line kind)) = ⊥
ShowAnswer s before after (Some (Named cause model)) = ⊥
ShowAnswer s before after (Some (NotAccepted unaccepted)) = ⊥
ShowAnswer s before after (Some TooLarge) = ShowSizeStop s before after
ShowAnswer s before after (Some Memory) = after ≡ before

-- where the file is in form and no call fails: memory was refused, or the work is done, or it is refused as too large, exactly where it is
abbrev pub ShowCompletes : ShowWords → View → View → ℕ → Type 0
ShowCompletes s before after status =
    (m : Mip) → Holds before.held s.model deck_result m → Calm before after
    → (status ≡ 7) ⊎ ((is_too_long (deck_text m) ≡ false) × (status ≡ 0)) ⊎ ((is_too_long (deck_text m) ≡ true) × (status ≡ 6))
