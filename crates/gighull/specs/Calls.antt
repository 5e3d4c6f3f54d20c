-- The loose numbers of a C call as what the definitions speak of: a setting, a written word, and how far a listing went.
use Rattle.std.specs.Prelude.{ℕ}
use Rattle.setting.specs.declared.Setting.{Setting}
use Rattle.encoding.specs.Encode.{Written}
use Rattle.listing.specs.declared.Listed.{Listed}

abbrev pub setting_of : ℕ → ℕ → Setting
setting_of vl features = record { vl = vl; features = features }

abbrev pub written_as : ℕ → ℕ → Written
written_as n w = record { number = n; word = w }

-- how much was read, and how much text that gave
abbrev pub listed_as : ℕ → ℕ → Listed
listed_as r w = record { read = r; written = w }
