-- Whether one record has what is looked for.
use Rattle.std.specs.Prelude.{Bool, ◌&&◌, not}
use Rattle.cgl_decode.specs.declared.kinds.Section.{Section}
use Rattle.cgl_decode.specs.Records.{Record, same_section}

abbrev pub is_data_of : Section → Record → Bool
is_data_of section r = not r.header && same_section section r.section
