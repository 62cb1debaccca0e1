-- Plain data, and references to it.
--     Data                             a type of plain data: its row, the machine value of each value, its laws, and those of a `&` to a value of it
--     uint_d, bool_d, unit_d              numbers, bools, and nothing
--     struct_d, enum_d                   a declared struct, a declared enum
--     Good, good, typed                what is known of a value of the type; the same from any machine value; its machine value has MIR's type
--     copies                           plain data can be had twice
--     pinned                           a result, once it is known which value it is
--     Mut, Shr, MutS, ShrS, ref-to     what the holder of a `&mut D`, `&D`, `&mut [D]`, `&[D]` owns; the reference itself
-- Assumes `Logic`.
use mathlib.Core.Path.{◌≡◌, refl, ap, subst, ◌∙◌}
use Prim.Native.Nat.{ℕ}
use mathlib.Core.List.{List, [], ◌∷◌}
use lib.Dec.{T}
use seplogic.Ra.Ura.{Ura}
use mir.Syntax.{Width, erased}
use mir.Val.{Val, vunit, vbool, vint, vptr}
use base.Logic.{sep, emp, via, emp∗, mono_l}
use base.Fml.{Lft, GName, Fml, ftrue}
use types.Logic.{Logic, sem}
use contract.Monad.{fact_use}
use denote.RattleType.{RattleType, RowLaws}
use denote.Laws.{Is, Tells, Lawful, Makes, Typed, shows, Copy}
use denote.Ref.{MutRef, ShrRef}
use denote.Slice.{slice_val, MutSlice, ShrSlice}
use denote.Copied.{Copied, uint_Copied, bool_Copied, Nothing-Copied}
use denote.Steps.{only}
use denote.Exit.{yes, Last, left}
use denote.Struct.Struct.{Plains}
use denote.Enum.Enum.{Few, Plainss}
use denote.Plain.{Nothing, Nothing-Tells, Nothing-Lawful, Nothing-Makes, UInt, Boolean, uint_row_laws, bool-row_laws, unit-row_laws, bool_Tells, bool_Lawful, bool_Makes, uint_Tells, uint_Lawful, uint_Makes}
use denote.Struct.Declared as SD
use denote.Struct.Laws as SL
use denote.Enum.Declared as ED
use denote.Enum.Laws as EL

-- ---- plain data: its row, how a value is spelled as a machine value, and that what a value owns can be had for nothing
pub record Data : Type 2 where
  -- its row
  pub row : RattleType
  -- the machine value of a value
  pub val : row.Denot → Val
  -- it has no other
  pub tells : Tells row (Is row) (λ y. val y ∷ [])
  -- the row's laws
  pub lawful : {M : Type 1} {𝓤 : Ura M} (𝓛 : Logic 𝓤) → Lawful 𝓛 row
  -- what a value owns is had for nothing
  pub made : {M : Type 1} {𝓤 : Ura M} (𝓛 : Logic 𝓤) → Makes 𝓛 row (Is row)
  -- what a `&` to a value holds can be had twice, and at each lifetime that ends no later
  pub shr_laws : RowLaws row
  -- a `&` to a value is made of any share of it, with no token, and is looked into
  pub copied : {M : Type 1} {𝓤 : Ura M} (𝓛 : Logic 𝓤) → Copied 𝓛 row
  -- nothing is said of it at exit: `λ x f. refl` at each type that is written out
  pub silent : (x : row.Denot) (f : Last (row.exit yes) x) → left (row.exit yes) x f ≡ ftrue

-- unsigned integers
abbrev pub uint_d : Width → Data
uint_d w = record { row = UInt w; val = λ n. vint w n; tells = uint_Tells w; lawful = λ 𝓛. uint_Lawful 𝓛 w; made = λ 𝓛. uint_Makes 𝓛 w; shr_laws = uint_row_laws w; copied = λ 𝓛. uint_Copied 𝓛 w; silent = λ x f. refl }

-- bools
abbrev pub bool_d : Data
bool_d = record { row = Boolean; val = λ t. vbool t; tells = bool_Tells; lawful = λ 𝓛. bool_Lawful 𝓛; made = λ 𝓛. bool_Makes 𝓛; shr_laws = bool-row_laws; copied = λ 𝓛. bool_Copied 𝓛; silent = λ x f. refl }

-- nothing, `()`
abbrev pub unit_d : Data
unit_d = record { row = Nothing; val = λ _. vunit; tells = Nothing-Tells; lawful = λ 𝓛. Nothing-Lawful 𝓛; made = λ 𝓛. Nothing-Makes 𝓛; shr_laws = unit-row_laws; copied = λ 𝓛. Nothing-Copied 𝓛; silent = λ x f. refl }

-- a declared struct: `struct_d T.the_type T'.the_laws T'.the_plain T'.the_copy (λ x f. refl)`
abbrev pub struct_d : (T : SD.Declared) (L : SL.Laws T) → Plains (SD.fields T) → SL.Copyables T.parts → ((x : (SD.row T).Denot) (f : Last ((SD.row T).exit yes) x) → left ((SD.row T).exit yes) x f ≡ ftrue) → Data
struct_d T L P C sil = record { row = SD.row T; val = SL.val T L; tells = SL.tells T L; lawful = λ 𝓛. SL.lawful T L 𝓛; made = λ 𝓛. SL.makes T P 𝓛; shr_laws = λ x. (SL.field_copy T C).shr_laws (T.to x); copied = λ 𝓛. SL.copied T C 𝓛; silent = sil }

-- a declared enum: `enum_d T.the_type T'.the_laws tt T'.the_plain T'.the_copy (λ x f. refl)`
abbrev pub enum_d : (T : ED.Declared) (L : EL.Laws T) → Few (ED.shape T) → Plainss (ED.variants T) → EL.Copyabless T.parts → ((x : (ED.row T).Denot) (f : Last ((ED.row T).exit yes) x) → left ((ED.row T).exit yes) x f ≡ ftrue) → Data
enum_d T L few P C sil = record { row = ED.row T; val = EL.val T L; tells = EL.tells T L; lawful = λ 𝓛. EL.lawful T L 𝓛 few; made = λ 𝓛. EL.makes T P 𝓛; shr_laws = λ x. (EL.field_copy T C).shr_laws (T.to x); copied = λ 𝓛. EL.copied T C 𝓛; silent = sil }

-- x is a value of the type: what whoever holds one knows
abbrev pub Good : (D : Data) → D.row.Denot → Type 0
Good D x = Is D.row x (D.val x ∷ [])

-- the same, from any machine value that it has
pub good : (D : Data) (x : D.row.Denot) (v : Val) → Is D.row x (v ∷ []) → Good D x
good D x v is = subst (Is D.row x) (D.tells x (v ∷ []) is) is

module _ {M : Type 1} {𝓤 : Ura M} (𝓛 : Logic 𝓤) where
  -- its machine value has the type that MIR writes: `(typed 𝓛 D 𝓛 x ok).0` is what `init` and `store` ask
  pub typed : (D : Data) → (x : D.row.Denot) → Good D x → Typed D.row.mir (D.val x ∷ [])
  typed D x is = (D.lawful 𝓛).typed x (D.val x ∷ []) is

-- what a value came back as, once it is known which value of the type it is: for `calls_any`
pub pinned : (Q : Data) (r r₀ : Q.row.Denot) (v : Val) → Is Q.row r (v ∷ []) → r ≡ r₀ → (v ≡ Q.val r₀) × Good Q r₀
pinned Q r r₀ v is e = (ap only (Q.tells r (v ∷ []) is) ∙ ap Q.val e, subst (Good Q) e (good Q r v is))

module _ {M : Type 1} {𝓤 : Ura M} (𝓛 : Logic 𝓤) where
  -- what a value owns can be had twice
  pub copies : (D : Data) → Copy 𝓛 D.row
  copies D = record { twice = λ x vs. fact_use 𝓤 (Is D.row x vs) (shows 𝓛 D.row x vs) (λ p. via 𝓤 (sep 𝓤 (emp 𝓤) (sem 𝓛 (D.row.own_val x vs))) (emp∗ 𝓤 (sem 𝓛 (D.row.own_val x vs))) (mono_l 𝓤 (sem 𝓛 (D.row.own_val x vs)) (D.made 𝓛 x vs p))) }

-- ---- references to plain data. MIR's name of a lifetime does not matter to what is owned
-- what the holder of a `&κ mut D` at (b, o) under γ owns, at the value x; and of a `&κ D`
abbrev pub Mut : (D : Data) → Lft → ℕ → ℕ → GName → D.row.Denot → Fml
Mut D κ b o γ x = (MutRef erased κ D.row).own_val (record { ref_ptr = (b, o); ghost_name = γ; now = x }) (vptr b o ∷ [])

-- of a `&κ D`, which has no name
abbrev pub Shr : (D : Data) → Lft → ℕ → ℕ → D.row.Denot → Fml
Shr D κ b o x = (ShrRef erased κ D.row).own_val (record { ref_ptr = (b, o); now = x }) (vptr b o ∷ [])

-- what the holder of a `&κ mut [D]` at (b, o) under γ owns, at the list xs, where its count is n; and of a `&κ [D]`
abbrev pub MutS : (D : Data) → Lft → ℕ → ℕ → GName → ℕ → List D.row.Denot → Fml
MutS D κ b o γ n xs = (MutSlice erased κ D.row).own_val (record { ref_ptr = (b, o); ghost_name = γ; now = xs }) (slice_val (b, o) n ∷ [])

-- of a `&κ [D]`
abbrev pub ShrS : (D : Data) → Lft → ℕ → ℕ → ℕ → List D.row.Denot → Fml
ShrS D κ b o n xs = (ShrSlice erased κ D.row).own_val (record { ref_ptr = (b, o); now = xs }) (slice_val (b, o) n ∷ [])
