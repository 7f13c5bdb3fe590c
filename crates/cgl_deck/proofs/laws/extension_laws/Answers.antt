use Rattle.cgl_deck.proofs.ExtensionLaws.{column_count_of_extension, columns_of_extension, extension_keeps_points, extension_sized, new_rows_of_extension, old_rows_of_extension, rows_of_extension}
use Rattle.cgl_deck.proofs.CountLaws.{names_enough}
use Rattle.cgl_deck.proofs.ValidLaws.{extension_valid}
use Rattle.cgl_deck.proofs.DecimalExtensionLaws.{extension_decimal}
use Rattle.cgl_deck.proofs.laws.extension_laws.Goals as goal

pub returns : goal.returns
returns c = record {
  rows = rows_of_extension;
  columns = columns_of_extension;
  column_count = column_count_of_extension;
  sized = extension_sized;
  valid = extension_valid;
  decimal = extension_decimal;
  old_rows = old_rows_of_extension;
  new_rows = new_rows_of_extension;
  points = extension_keeps_points;
  names = names_enough;
}
