-- The number of the C interface, raised at each change of it. The interface that had no number was the first; the second has form 6 in place of form 5; in the third form 2 is PSEL; the fourth has PSEL's index unit; the fifth has form 7, one PEXT, in place of forms 0 and 1.
use Rattle.std.specs.Prelude.{ℕ}

abbrev pub interface_version : ℕ
interface_version = 5
