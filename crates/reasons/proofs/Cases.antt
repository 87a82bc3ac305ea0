-- The worked cases hold, computed by antt. Assumes nothing.
use mathlib.Core.Path.{◌≡◌, refl}
use mathlib.Core.List.{map}
use Rattle.white.specs.White.{mem, whites, is_white}
use Rattle.encoding.specs.Utf8.{table, all_in, len_by, char_len}
use Rattle.text.specs.Chars.{code, chars_from}
use Rattle.width.specs.Count.{dark, counted, width_of, place_from}
use Rattle.tree.specs.Table.{node_of}
use Rattle.tree.specs.Cursor.{siblings, shown, passes, kept, behind}
use Rattle.kinds.specs.Facts.{byte_of, facts_of}
use Rattle.loose.specs.Reason.{is_entry, crowd, reason}
use Rattle.reasons.specs.Why.{is_list, is_name, of_named, of_first, of_object, of_kind, why_at}
use Rattle.reasons.specs.Cases.{Case, text_of, records_from, script, told, reasons, pairs, places, objects}

pub reasons_hold : map told reasons ≡ map (λ (c : Case). c.expected) reasons
unfolding mem whites is_white table all_in len_by char_len code chars_from dark counted width_of place_from node_of siblings shown passes kept behind byte_of facts_of is_entry crowd reason is_list is_name of_named of_first of_object of_kind why_at text_of records_from script reasons
reasons_hold = refl

pub pairs_hold : map told pairs ≡ map (λ (c : Case). c.expected) pairs
unfolding mem whites is_white table all_in len_by char_len code chars_from dark counted width_of place_from node_of siblings shown passes kept behind byte_of facts_of is_entry crowd reason is_list is_name of_named of_first of_object of_kind why_at text_of records_from script pairs
pairs_hold = refl

pub places_hold : map told places ≡ map (λ (c : Case). c.expected) places
unfolding mem whites is_white table all_in len_by char_len code chars_from dark counted width_of place_from node_of siblings shown passes kept behind byte_of facts_of is_entry crowd reason is_list is_name of_named of_first of_object of_kind why_at text_of records_from script places
places_hold = refl

pub objects_hold : map told objects ≡ map (λ (c : Case). c.expected) objects
unfolding mem whites is_white table all_in len_by char_len code chars_from dark counted width_of place_from node_of siblings shown passes kept behind byte_of facts_of is_entry crowd reason is_list is_name of_named of_first of_object of_kind why_at text_of records_from script objects
objects_hold = refl
