-- Document 01, "The lister": which name a word has, all features on, VL 128.
use Rattle.std.specs.Prelude.{List, ℕ}
use Rattle.setting.specs.declared.Setting.{Setting}
use Rattle.encoding.specs.Named.{name_in}
use Rattle.encoding.specs.Decode.{decode_of}

abbrev pub all_on : Setting
all_on = record { vl = 128; features = 31 }

unfoldable pub name_of : ℕ → List ℕ
name_of w = name_in (decode_of all_on w)
