-- The fields of an instruction as the code has them: PEXT's and PSEL's size by its log, LUTI4's layout by how far apart its destinations are.
use Rattle.std.specs.Prelude.{eqb}
use Rattle.logic.specs.Pick.{pick}
use Rattle.element.specs.Units.{size_at}
use Rattle.encoding.specs.declared.Instruction.{Instruction}
use Rattle.encoding.specs.declared.Instruction.TheVariants.{Pext, Psel, Luti4c, Luti4s, Narrow}
use Rattle.fields.specs.declared.PextOperands.{PextOperands}
use Rattle.fields.specs.declared.PselOperands.{PselOperands}
use Rattle.fields.specs.declared.LutiOperands.{LutiOperands}
use Rattle.fields.specs.declared.NarrowOperands.{NarrowOperands}

abbrev pub pext_as : PextOperands → Instruction
pext_as o = Pext (size_at o.log) o.first o.portions o.counter o.pd

abbrev pub psel_as : PselOperands → Instruction
psel_as o = Psel (size_at o.log) o.offset o.index o.pn o.pm o.pd

abbrev pub luti4_as : LutiOperands → Instruction
luti4_as o = pick (eqb o.stride 4) (Luti4s o.size o.i1 o.zn o.zd) (Luti4c o.size o.i1 o.zn o.zd)

abbrev pub narrow_as : NarrowOperands → Instruction
narrow_as o = Narrow o.op o.u o.r o.t o.size o.shift o.zn o.zd
