-- The page of each instruction, in document 01's order.
use Rattle.encoding.specs.declared.Instruction.{Instruction}
use Rattle.encoding.specs.declared.Instruction.TheVariants.{Pext, Psel, Luti4c, Luti4s, Narrow}
use Rattle.machine.specs.Effect.{Effect}
use Rattle.machine.specs.Pext.{pext_effect}
use Rattle.machine.specs.Psel.{psel_effect}
use Rattle.machine.specs.Luti4.{luti4c_effect, luti4s_effect}
use Rattle.machine.specs.Narrow.{narrow_effect}

abbrev pub effect_of : Instruction → Effect
effect_of (Pext size first portions counter pd) = pext_effect size first portions counter pd
effect_of (Psel size offset index pn pm pd) = psel_effect size offset index pn pm pd
effect_of (Luti4c size i1 zn zd) = luti4c_effect size i1 zn zd
effect_of (Luti4s size i1 zn zd) = luti4s_effect size i1 zn zd
effect_of (Narrow op u r t size shift zn zd) = narrow_effect op u r t size shift zn zd
