-- The four claims: undefined exactly, one layout, decode after encode, encode after decode. From the laws of rows and the facts of each form's fields.
use mathlib.Core.Path.{◌≡◌, refl, sym, ap, subst, ◌∙◌}
use mathlib.Core.Bool.{true, false, ◌&&◌}
use mathlib.Core.List.{List, map}
use Prim.Native.Nat.{ℕ, suc, ◌^◌, ◌<◌}
use native.Mathlib.Omega.{arith}
use lib.Dec.{T, eqb, eqb→eq}
use native.Mathlib.Decide.{dec_lt}
use lib.ListN.{length, get_or, get_or-eq_default}
use borrow.Author.Tests.{eqb-true}
use Rattle.setting.specs.Allowed.{has_any, allowed_of}
use Rattle.setting.specs.Numbers.{accept, refuse}
use Rattle.setting.specs.declared.Setting.{Setting}
use Rattle.element.proofs.Tests.{both_yes}
use Rattle.encoding.specs.Layout.{width, fields_of, word_of, matches}
use Rattle.encoding.specs.Instructions.{in_range, raw_of}
use Rattle.encoding.specs.Rows.{Row, rows, row_of, row_matches, place_of, pext1, pext2, psel, luti4c, luti4s, narrow}
use Rattle.encoding.specs.Places.{place_first}
use Rattle.encoding.specs.Decode.{first_of, decode_of, read_at}
use Rattle.encoding.specs.Encode.{Written, written, encode_of}
use Rattle.encoding.specs.Claims.{UndefinedExactly, OneLayout, DecodeEncode, EncodeDecode}
use Rattle.encoding.specs.declared.Instruction.{Instruction}
use Rattle.encoding.specs.declared.Instruction.TheVariants.{Pext, Psel, Luti4c, Luti4s, Narrow}
use Rattle.encoding.proofs.LayoutLaws.{word_lt, fields_back, word_matches}
use Rattle.encoding.proofs.Apart.{decide}
use Rattle.encoding.proofs.Choice.{disjoint, none_first, first_is_read, place_is, at_most_one, refused_none, each_row, accepted_by}
use Rattle.encoding.proofs.InRange.{in_range_reads}
use Rattle.encoding.proofs.WrittenBack.{RowWrites, pext1_writes, pext2_writes, psel_row_writes, luti4c_row_writes, luti4s_row_writes, narrow_row_writes}

-- the six layouts are sound and pairwise apart: computed
pub rows_disjoint : T (disjoint rows)
rows_disjoint = tt

pub undefined_exactly : UndefinedExactly
unfolding decode_of
undefined_exactly s w a =
    (λ e. refused_none rows s.features w (simp a at e), λ n. simp a (none_first rows s.features w n))

pub one_layout : OneLayout
one_layout w = at_most_one rows rows_disjoint w

-- ---- decode after encode
-- what stands in a column at an instruction's place is its row's
pub column_at_place : {A : Type 0} (f : Row → A) (d : A) (i : Instruction) → get_or (map f rows) (place_of i) d ≡ f (row_of i)
column_at_place f d (Pext size first portions counter pd) = decide (eqb portions 2) (λ e. simp e) (λ e. simp e)
column_at_place f d (Psel size offset index pn pm pd) = refl
column_at_place f d (Luti4c size i1 zn zd) = refl
column_at_place f d (Luti4s size i1 zn zd) = refl
column_at_place f d (Narrow op u r t size shift zn zd) = refl

-- so its place is one of the table's: a column of zeros has none past its end
pub place_lt : (i : Instruction) → place_of i < length rows
place_lt i = go (dec_lt (place_of i) (length rows))
  where
    go : Dec (place_of i < length rows) → place_of i < length rows
    go (yes l) = l
    go (no l) =
        let z : ◌≡◌ {A = ℕ} 1 0 = sym (get_or-eq_default (map (λ (r : Row). 0) rows) 1 {n = place_of i} (omega arith)) ∙ column_at_place (λ r. 0) 1 i in
        absurd (omega arith)

-- the word of an instruction in range is read as that instruction
own_word : (i : Instruction) (f : ℕ) → in_range i ≡ true → has_any f (row_of i).features ≡ true → first_of rows f (word_of (row_of i).layout (raw_of i)) ≡ accept i
own_word i f g h =
    let r = in_range_reads i g in
    let L = (row_of i).layout in
    let w = word_of L (raw_of i) in
    let m : matches L w ≡ true = word_matches L (raw_of i) r.fit in
    let fields : fields_of L w ≡ raw_of i = fields_back L (raw_of i) r.fit in
    let all : row_matches (row_of i) f w ≡ true = rw (m, h) (ap (row_of i).condition fields ∙ r.holds) in
    let place : place_first rows f w ≡ place_of i = place_is rows rows_disjoint (place_of i) f w (column_at_place (λ r. row_matches r f w) false i ∙ all) in
    first_is_read rows f w ∙ ap (λ (k : ℕ). read_at rows k w) place ∙ column_at_place (λ r. accept (r.reading (fields_of r.layout w))) (refuse 3) i ∙ ap accept (ap (row_of i).reading fields ∙ r.back)

-- and it is a word of 32 bits, as every layout is: computed
own_width : (i : Instruction) → width (row_of i).layout ≡ 32
own_width i =
    eqb→eq (width (row_of i).layout) 32
    (subst (λ (r : Row). T (eqb (width r.layout) 32)) (column_at_place (λ r. r) pext1 i) (each_row (λ r. eqb (width r.layout) 32) rows pext1 tt tt (place_of i)))

pub own_word_lt : (i : Instruction) → in_range i ≡ true → word_of (row_of i).layout (raw_of i) < 2 ^ 32
own_word_lt i g = subst (λ (n : ℕ). word_of (row_of i).layout (raw_of i) < 2 ^ n) (own_width i) (word_lt (row_of i).layout (raw_of i) (in_range_reads i g).fit)

not_zero : {X : Type 0} {n : ℕ} (w : ℕ) → ◌≡◌ {A = Written} (record { number = suc n; word = 0 }) (written w) → X
not_zero {n = n} w e = let z : suc n ≡ 0 = ap (λ (x : Written). x.number) e in absurd (omega arith)

pub decode_encode : DecodeEncode
unfolding decode_of encode_of
decode_encode s i w e =
    decide (allowed_of s)
    (λ a. decide (in_range i)
    (λ g. decide (has_any s.features (row_of i).features)
    (λ h. let v : word_of (row_of i).layout (raw_of i) ≡ w = ap (λ (x : Written). x.word) (simp (a, g, h) at e) in
    simp a (subst (λ (x : ℕ). first_of rows s.features x ≡ accept i) v (own_word i s.features g h)))
    (λ h. not_zero w (simp (a, g, h) at e)))
    (λ g. not_zero w (simp (a, g) at e)))
    (λ a. not_zero w (simp a at e))

-- ---- encode after decode
-- a row whose fields are written back: the row's reading of a word that it matches is written as that word
row_back : (s : Setting) (r : Row) → ((xs : List ℕ) → row_of (r.reading xs) ≡ r) → RowWrites r → allowed_of s ≡ true → (w : ℕ) → row_matches r s.features w ≡ true
    → encode_of s (r.reading (fields_of r.layout w)) ≡ written w
unfolding encode_of
row_back s r own writes a w m =
    let xs = fields_of r.layout w in
    let p = both_yes (matches r.layout w && has_any s.features r.features) (r.condition xs) m in
    let q = both_yes (matches r.layout w) (has_any s.features r.features) p.0 in
    let b = writes w p.1 in
    simp (a, b.range, own xs, q.1, b.back) (ap written (eqb-true (word_of r.layout xs) w q.0))

pub encode_decode : EncodeDecode
unfolding decode_of
encode_decode s i w e =
    decide (allowed_of s)
    (λ a. accepted_by (λ j. encode_of s j ≡ written w) s.features w rows (
      row_back s pext1 (λ xs. refl) pext1_writes a w,
      (
        row_back s pext2 (λ xs. refl) pext2_writes a w,
        (
          row_back s psel (λ xs. refl) psel_row_writes a w,
          (row_back s luti4c (λ xs. refl) luti4c_row_writes a w, (row_back s luti4s (λ xs. refl) luti4s_row_writes a w, (row_back s narrow (λ xs. refl) narrow_row_writes a w, tt))),
        ),
      ),
    )
    i (simp a at e))
    (λ a. let c = simp a at e in let z : ◌≡◌ {A = ℕ} 0 1 = cc in absurd (omega arith))

-- ---- what the machine asks of reading
-- fields that are read are in range, since they are written back
pub read_in_range : (s : Setting) (i : Instruction) (w : ℕ) → decode_of s w ≡ accept i → in_range i ≡ true
unfolding encode_of
read_in_range s i w e =
    let back = encode_decode s i w e in
    decide (in_range i) (λ g. g)
    (λ g. decide (allowed_of s) (λ a. not_zero w (simp (a, g) at back)) (λ a. not_zero w (simp a at back)))
