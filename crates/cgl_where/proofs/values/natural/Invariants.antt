use Rattle.std.proofs.Common.{◌≡◌, ◌<◌, ◌^◌, take, true}
use Rattle.std.specs.List.{list_all}
use Rattle.cgl_num.specs.NumberText.{is_digit, natural}
use Rattle.cgl_where.proofs.values.natural.Given as goal

abbrev pub invariant-digits : goal.invariant-digits
invariant-digits l = record {
  digits : list_all is_digit (take l.b-index l.text) ≡ true;
  value : l.number ≡ natural (take l.b-index l.text);
  below : l.number < 10 ^ 36;
}
