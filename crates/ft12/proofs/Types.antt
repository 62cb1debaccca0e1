-- The types of this crate as the kit of walks has them, and the link record as its fields side by side.
use Rattle.std.proofs.Common.{◌≡◌, refl, List, [], ◌∷◌, w8, w16, w64}
use seplogic.Ra.Ura.{Ura}
use mir.Syntax.{ty_int, ty_array}
use types.Logic.{Logic}
use denote.RattleType.{RattleType}
use denote.Laws.{Lawfuls}
use denote.Plain.{UInt, uint_Lawful}
use denote.Array.{Array, Array-Lawful}
use denote.Struct.Declared as SD
use denote.Struct.Members.{Member, rows_of}
use Rattle.walks.proofs.Data.{Data, uint_d, struct_d, enum_d}
use Rattle.ft12.specs.contracts.record.Link as L
use Rattle.ft12.proofs.record.Link.TheLaws as L'
use Rattle.ft12.specs.contracts.rules.Heard as K
use Rattle.ft12.proofs.rules.Heard.TheLaws as K'

abbrev pub byte_d : Data
byte_d = uint_d w8

abbrev pub size_d : Data
size_d = uint_d w64

abbrev pub link_d : Data
link_d = struct_d L.the_type L'.the_laws L'.the_plain L'.the_copy (λ x f. refl)

abbrev pub heard_d : Data
heard_d = enum_d K.the_type K'.the_laws tt K'.the_plain K'.the_copy (λ x f. refl)

-- the rows of the record's two memories
abbrev pub receiver_r : RattleType
receiver_r = Array (UInt w8) 260

abbrev pub outstanding_r : RattleType
outstanding_r = Array (UInt w8) 261

abbrev pub members : List Member
members =
    record { row = receiver_r; ty = ty_array (ty_int w8) 260 }
    ∷ record { row = UInt w16; ty = ty_int w16 }
    ∷ record { row = UInt w8; ty = ty_int w8 }
    ∷ record { row = UInt w8; ty = ty_int w8 }
    ∷ record { row = UInt w8; ty = ty_int w8 }
    ∷ record { row = outstanding_r; ty = ty_array (ty_int w8) 261 }
    ∷ record { row = UInt w16; ty = ty_int w16 }
    ∷ record { row = UInt w8; ty = ty_int w8 }
    ∷ []

pub rows_are : rows_of members ≡ SD.fields L.the_type
rows_are = refl

pub lawfuls : {M : Type 1} {𝓤 : Ura M} (𝓛 : Logic 𝓤) → Lawfuls 𝓛 (rows_of members)
lawfuls 𝓛 =
    let u8 = uint_Lawful 𝓛 w8 in
    let u16 = uint_Lawful 𝓛 w16 in
    (Array-Lawful 𝓛 (UInt w8) u8 260, (u16, (u8, (u8, (u8, (Array-Lawful 𝓛 (UInt w8) u8 261, (u16, (u8, tt))))))))
