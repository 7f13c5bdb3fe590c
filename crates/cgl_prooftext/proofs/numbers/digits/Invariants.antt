use Rattle.std.proofs.Common.{◌≡◌, take, true}
use Rattle.std.specs.List.{list_all}
use Rattle.cgl_num.specs.NumberText.{is_digit, natural}
use Rattle.cgl_prooftext.specs.Sizes.{near}
use Rattle.cgl_prooftext.proofs.numbers.digits.Given as goal

abbrev pub invariant-digits : goal.invariant-digits
invariant-digits l = record {
  all : list_all is_digit (take l.byte-index l.text) ≡ true;
  value : l.number ≡ near (natural (take l.byte-index l.text));
}
