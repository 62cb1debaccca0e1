-- The byte-wise receiver: what a byte is after those gathered before it. This one definition serves the link rules,
-- the range test of the link record, the code and the theorems.
use Rattle.std.specs.Prelude.{if◌then◌else◌, ℕ, ◌+◌, Bool, true, false, ◌&&◌, List, [], ◌∷◌, ◌++◌, length, get_or, drop, leb, ltb, eqb}
use Rattle.ft12.specs.Frame.{checksum}
use Rattle.ft12.specs.declared.receiver.Judgement.{Judgement}
use Rattle.ft12.specs.declared.receiver.Judgement.TheVariants.{More, Damage, Acknowledgement, Fixed, Data}

-- "Any byte that breaks these forms is damage, found at that byte": only x may stand here
abbrev pub only : ℕ → ℕ → Judgement
only x b = if eqb b x then More else Damage

-- at a frame start: E5, 10 or 68
unfoldable pub judged_first : ℕ → Judgement
judged_first b = if eqb b 0xE5 then Acknowledgement else if eqb b 0x10 then More else only 0x68 b

-- after 10: C, the same C, 16
unfoldable pub judged_fixed : List ℕ → ℕ → Judgement
judged_fixed g b =
    if eqb (length g) 1 then More
    else if eqb (length g) 2 then only (get_or g 1 0) b
    else if eqb b 0x16 then Fixed (get_or g 1 0)
    else Damage

-- after 68: L from 1 to 255, the same L, 68, L bytes of control and data, their checksum, 16
unfoldable pub judged_data : List ℕ → ℕ → Judgement
judged_data g b =
    if eqb (length g) 1 then (if leb 1 b && leb b 255 then More else Damage)
    else if eqb (length g) 2 then only (get_or g 1 0) b
    else if eqb (length g) 3 then only 0x68 b
    else if ltb (length g) (4 + get_or g 1 0) then More
    else if eqb (length g) (4 + get_or g 1 0) then only (checksum (drop 4 g)) b
    else if eqb b 0x16 then Data (get_or g 4 0) (get_or g 1 0)
    else Damage

-- what the byte b is after the gathered bytes g
unfoldable pub judged : List ℕ → ℕ → Judgement
judged g b =
    if eqb (length g) 0 then judged_first b
    else if eqb (get_or g 0 0) 0x10 then judged_fixed g b
    else judged_data g b

unfoldable pub is_more : Judgement → Bool
is_more More = true
is_more Damage = false
is_more Acknowledgement = false
is_more (Fixed c) = false
is_more (Data c n) = false

-- after g, each further byte asks for more
unfoldable pub gathers : List ℕ → List ℕ → Bool
gathers g [] = true
gathers g (b ∷ bs) = is_more (judged g b) && gathers (g ++ b ∷ []) bs

-- the test for a beginning, not the whole, of some sound frame
unfoldable pub is_beginning : List ℕ → Bool
is_beginning g = gathers [] g
