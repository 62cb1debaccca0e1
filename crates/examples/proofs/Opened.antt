-- Every definition of link, services and server under one name: whoever says `unfolding opened` computes with all of them.
use mathlib.Core.Bool.{Bool, true}
use mathlib.Core.List.{flatten}
use Rattle.words.specs.Words.{are_zero, is_padded, are_bytes}
use Rattle.ft12.specs.Frame.{fixed_frame, total, checksum, data_frame, message_of, is_whole}
use Rattle.ft12.specs.Receiver.{judged_first, judged_fixed, judged_data, judged, is_more, gathers, is_beginning}
use Rattle.ft12.specs.Record.{line_of, link_of, host_control, server_control, receiver_ok, outstanding_ok, line_ok, two_valued, memory_ok, in_range}
use Rattle.ft12.specs.Rules.{at_start, start_dropping, gathering, cleared, holding, expecting, case_of_acknowledgement, case_of_fixed, case_of_data, case_of, heard_at, on_heard, on_host_byte, on_idle_mark, on_ack_wait_over, on_message}
use Rattle.baos.specs.Datapoint.{size_of, limit_of, unused_bits_ok, is_value, value_of, datapoint_ok, with_state, with_value, with_mark, handed_out, bus_value, outcome, commanded}
use Rattle.baos.specs.Item.{item_ok, bytes_of, with_bytes}
use Rattle.baos.specs.TextList.{list_entry_bytes, is_entry, entries_from, entries_at, bytes_taken, rise_from, text_list_ok}
use Rattle.baos.specs.Text.{text_lists_ok, entries_for, chosen, stretch_of, stretch_bytes, text_of}
use Rattle.baos.specs.Table.{rising, table_ok, well_formed, found, changed_at}
use Rattle.baos.specs.Message.{main_service, sub_service, start_of, number_of, filter_of, coded, answer_of, after_of, served}
use Rattle.baos.specs.Get.{in_request, overflow, listing, get_finding, getting, item_entry, get_server_item, description_entry, get_datapoint_description, string_of, string_entry, get_description_string, value_entry, passes, asked, handing_out, get_datapoint_value, parameter_entries, get_parameter_byte}
use Rattle.baos.specs.Set.{first_item_entry, first_datapoint_entry, span, fills, set_entries, item_code, takes_command, datapoint_code, judged_item, judged_datapoint, first_bad, set_finding, applied, setting, set_item, set_server_item, set_datapoint, set_datapoint_value}
use Rattle.baos.specs.Service.{service, unanswered, carried_out}
use Rattle.baos.specs.Indication.{needs, goes, room_after, choices, reported, after_report, indication_of, indication}
use Rattle.baos.specs.Lookup.{lookup_of, is_present}
use Rattle.baos.specs.Bus.{status_of, takes, found_takes}
use Rattle.calls.specs.Event.{at_datapoint, bus_ok}
use Rattle.calls.specs.Call.{saying, handed_up, on_moved, on_poll, happens, refusal, refused, accepted, call}
use Rattle.demands.specs.Run.{sent_of, before, run}

unfoldable pub opened : Bool
unfolding flatten are_zero is_padded are_bytes fixed_frame total checksum data_frame message_of is_whole judged_first judged_fixed judged_data judged is_more gathers is_beginning line_of link_of host_control server_control receiver_ok outstanding_ok line_ok two_valued memory_ok in_range at_start start_dropping gathering cleared holding expecting case_of_acknowledgement case_of_fixed case_of_data case_of heard_at on_heard on_host_byte on_idle_mark on_ack_wait_over on_message size_of limit_of unused_bits_ok is_value value_of datapoint_ok with_state with_value with_mark handed_out bus_value outcome commanded item_ok bytes_of with_bytes list_entry_bytes is_entry entries_from entries_at bytes_taken rise_from text_list_ok text_lists_ok entries_for chosen stretch_of stretch_bytes text_of rising table_ok well_formed found changed_at main_service sub_service start_of number_of filter_of coded answer_of after_of served in_request overflow listing get_finding getting item_entry get_server_item description_entry get_datapoint_description string_of string_entry get_description_string value_entry passes asked handing_out get_datapoint_value parameter_entries get_parameter_byte first_item_entry first_datapoint_entry span fills set_entries item_code takes_command datapoint_code judged_item judged_datapoint first_bad set_finding applied setting set_item set_server_item set_datapoint set_datapoint_value service unanswered carried_out needs goes room_after choices reported after_report indication_of indication lookup_of is_present status_of takes found_takes at_datapoint bus_ok saying handed_up on_moved on_poll happens refusal refused accepted call sent_of before run
opened = true
