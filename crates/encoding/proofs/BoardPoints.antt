-- The starred cases on reading words, the points of PEXT and PSEL beside them and the names of the narrowing words: each computes, and under every setting only the feature of LUTI4S is left open.
use mathlib.Core.Path.{◌≡◌, refl}
use mathlib.Core.Bool.{true, false}
use lib.Count.{count_trailing_zeros}
use Rattle.setting.specs.Allowed.{has_feature, allowed_of}
use Rattle.setting.specs.Numbers.{accept, refuse}
use Rattle.setting.specs.declared.Feature.TheVariants.{Sme2p1}
use Rattle.setting.specs.declared.Setting.{Setting}
use Rattle.element.specs.Size.{size_of}
use Rattle.encoding.specs.Decode.{decode_of}
use Rattle.logic.specs.Every.{Every}
use Rattle.encoding.specs.Points.{reading_points, predicate_readings}
use Rattle.encoding.specs.NarrowWords.{NarrowNamed}
use Rattle.encoding.specs.declared.Instruction.TheVariants.{Luti4s}
use Rattle.encoding.proofs.Apart.{decide}

strided_here : (s : Setting) → allowed_of s ≡ true → has_feature s.features Sme2p1 ≡ true → decode_of s 0xc09a9000 ≡ accept (Luti4s 16 0 0 0)
unfolding decode_of
strided_here s a h = simp (a, h)

strided_missing : (s : Setting) → allowed_of s ≡ true → has_feature s.features Sme2p1 ≡ false → decode_of s 0xc09a9000 ≡ refuse 3
unfolding decode_of
strided_missing s a h = simp (a, h)

never_strided_words : (s : Setting) → allowed_of s ≡ true → decode_of s 0xc09aa000 ≡ refuse 3
unfolding decode_of
never_strided_words s a = decide (has_feature s.features Sme2p1) (λ h. simp (a, h)) (λ h. simp (a, h))

pub narrow_named : NarrowNamed
unfolding decode_of allowed_of
narrow_named = refl

pub reading_points_lem : Every reading_points
unfolding decode_of allowed_of size_of count_trailing_zeros
reading_points_lem =
    (refl, (refl, (refl, (strided_here, (strided_missing, (never_strided_words, (refl, (refl, (refl, (refl, (refl, (refl, (refl, tt)))))))))))))

pub predicate_readings_lem : Every predicate_readings
unfolding decode_of allowed_of size_of count_trailing_zeros
predicate_readings_lem = (refl, (refl, (refl, (refl, (refl, (refl, (refl, tt)))))))
