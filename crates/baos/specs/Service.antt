-- Carrying out a message.
use Rattle.std.specs.Prelude.{if◌then◌else◌, ℕ, Bool, not, ◌||◌, List, [], length, leb, ltb, eqb}
use Rattle.baos.specs.Table.{Tables}
use Rattle.baos.specs.Message.{main_service, sub_service, start_of, coded, Served}
use Rattle.baos.specs.Get.{get_server_item, get_datapoint_description, get_description_string, get_datapoint_value}
use Rattle.baos.specs.Get.{get_parameter_byte}
use Rattle.baos.specs.Set.{set_server_item, set_datapoint_value, set_parameter_byte}

-- Row 5: "sub not one of the six"; of the eight below, since "code 5 no longer for sub 08" (document 02, item 5), "code
-- 5 no longer for sub 04" (item 1)
unfoldable pub service : Tables → List ℕ → Served
service t m =
    if eqb (sub_service m) 0x01 then get_server_item t m
    else if eqb (sub_service m) 0x02 then set_server_item t m
    else if eqb (sub_service m) 0x03 then get_datapoint_description t m
    else if eqb (sub_service m) 0x04 then get_description_string t m
    else if eqb (sub_service m) 0x05 then get_datapoint_value t m
    else if eqb (sub_service m) 0x06 then set_datapoint_value t m
    else if eqb (sub_service m) 0x07 then get_parameter_byte t m
    else if eqb (sub_service m) 0x08 then set_parameter_byte t m
    else record { says = coded m (start_of m) 5; after = t }

-- "Shorter than 6 bytes, first byte not F0, or sub 80 and above: no answer."
unfoldable pub unanswered : List ℕ → Bool
unanswered m = ltb (length m) 6 || not (eqb (main_service m) 0xF0) || leb 0x80 (sub_service m)

unfoldable pub carried_out : Tables → List ℕ → Served
carried_out t m = if unanswered m then record { says = []; after = t } else service t m
