-- A reading is handed out once: the state byte is shown as it was, then bit 3 is cleared, and a second request for updated readings finds none.
use Prim.Native.Nat.{ℕ}
use mathlib.Core.Path.{◌≡◌, refl}
use mathlib.Core.List.{List, [], ◌∷◌, flatten}
use Rattle.words.specs.Words.{pad}
use Rattle.baos.specs.Datapoint.{size_of, value_of, with_state, handed_out}
use Rattle.baos.specs.Table.{Tables, datapoints_only}
use Rattle.baos.specs.Message.{main_service, sub_service, start_of, number_of, filter_of, coded, answer_of, after_of, served}
use Rattle.baos.specs.Get.{in_request, overflow, listing, get_finding, getting, value_entry, passes, asked, handing_out, get_datapoint_value}
use Rattle.baos.specs.Service.{service, unanswered, carried_out}

-- datapoint 5, one byte, valid, with this state
unfoldable reading : ℕ → Tables
reading state =
    datapoints_only (record { id = 5; typecode = 7; flags = 0; dpt = 5; state = state; value = pad 14 (0x2A ∷ []); mark = 1 } ∷ [])

-- GetDatapointValue from 1 on, up to 9 of them, updated ones only
unfoldable updated_only : List ℕ
updated_only = 0xF0 ∷ 0x05 ∷ 0x00 ∷ 0x01 ∷ 0x00 ∷ 0x09 ∷ 0x02 ∷ []

handed_out_lem : carried_out (reading 0x18) updated_only
    ≡ record { says = 0xF0 ∷ 0x85 ∷ 0x00 ∷ 0x01 ∷ 0x00 ∷ 0x01 ∷ 0x00 ∷ 0x05 ∷ 0x18 ∷ 0x01 ∷ 0x2A ∷ []; after = reading 0x10 }
unfolding reading updated_only flatten size_of value_of with_state handed_out main_service sub_service start_of number_of filter_of coded answer_of after_of served in_request overflow listing get_finding getting value_entry passes asked handing_out get_datapoint_value service unanswered carried_out
handed_out_lem = refl

not_again : carried_out (reading 0x10) updated_only ≡ record { says = 0xF0 ∷ 0x85 ∷ 0x00 ∷ 0x01 ∷ 0x00 ∷ 0x00 ∷ 0x02 ∷ []; after = reading 0x10 }
unfolding reading updated_only flatten size_of value_of with_state handed_out main_service sub_service start_of number_of filter_of coded answer_of after_of served in_request overflow listing get_finding getting value_entry passes asked handing_out get_datapoint_value service unanswered carried_out
not_again = refl
