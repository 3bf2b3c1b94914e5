-- "P1 to P12 are shown in one table with one result over the definitions": the result, by tests that the prover
-- computes. They open each definition that the readings come through.
use mathlib.Core.Path.{refl}
use Rattle.mask.specs.Mask.{low_ones, leading_ff, bytes_of, and_mask_to_type}
use Rattle.calls.specs.Facts.{after, after_all}
use Rattle.step.specs.Questions as step-asks
use Rattle.closing.specs.Answer.{answer_of}
use Rattle.closing.specs.Call as closing-asks
use Rattle.closing.specs.Words.{fill_words, filled}
use Rattle.zeros.specs.Zeros.{all_to}
use Rattle.labels.specs.Formed.{is_label}
use Rattle.labels.specs.Label.{label_of}
use Rattle.labels.specs.Operands.{is_length, choose}
use Rattle.labels.specs.Step.{step_of}
use Rattle.opcode.specs.Lists.{listed, operand_clearers, decoder_enders, calls, slot_needers}
use Rattle.word.specs.Multiplier.{is_array_mark, multiplier_of}
use Rattle.code.specs.Bytes.{push_size_at}
use Rattle.code.specs.Length.{direct_size, direct_min_calldata_words}
use Rattle.operations.specs.Run.{run, run_all}
use Rattle.analyze.specs.Analyze.{plan_of, run_plan, analyze}
use Rattle.analyze.specs.Arms.{arm_by}
use Rattle.analyze.specs.Length.{multiply, mul}
use Rattle.analyze.specs.Name.{mstore8}
use Rattle.analyze.specs.Load.{is_whole_word, arrays_off, new_offset, labelled_load, is_followed, unlabelled_load, load}
use Rattle.analyze.specs.Phases.{clear_operands, hints_of, range_rule, active_after}
use Rattle.marks.specs.Names.{insert_not_bool, mark_not_bool, set_tname}
use Rattle.kinds.specs.Fill.{fill}
use Rattle.kinds.specs.Kinds.{set_dynamic, set_array}
use Rattle.paths.specs.Depth.{depth_up, depth_of}
use Rattle.paths.specs.Find.{find_to, find_in, get_mut}
use Rattle.paths.specs.Make.{ensure, seen_up, make_seen, get_or_create}
use Rattle.paths.specs.Update.{with_field, update}
use Rattle.facts.specs.State.{node_of, ins, kids, kids_in}
use Rattle.list.specs.Budget.{spend_to, spend, shallow_to, shallow}
use Rattle.list.specs.Seen.{seen_ones, last_from, last_word}
use Rattle.list.specs.Types.{name_holds, by_kind, words_with, type_at, list_of}
use Rattle.types.specs.Text.{text}
use Rattle.types.specs.Tree.{count}
use Rattle.trace.specs.Text as lines
use Rattle.report.specs.Answer.{answer_text}
use Rattle.names.specs.Decimal.{decimal_to, decimal}
use Rattle.names.specs.Text.{name_text}
use Rattle.readings.specs.Said.{first_refusal}
use Rattle.readings.specs.Steps.{call_by}
use Rattle.readings.specs.Table.{bench, Shown}

-- each case by a computation of its own
pub bench_shown : Shown bench
unfolding bench first_refusal call_by low_ones leading_ff bytes_of and_mask_to_type after after_all step-asks.sizes_fit
    step-asks.labels_fit step-asks.fields_fit step-asks.slot_there step-asks.room_there step-asks.step_tests answer_of
    closing-asks.closing_tests fill_words filled all_to is_label label_of is_length choose step_of listed operand_clearers
    decoder_enders calls slot_needers is_array_mark multiplier_of push_size_at direct_size direct_min_calldata_words run run_all
    plan_of run_plan analyze arm_by multiply mul is_whole_word arrays_off new_offset labelled_load is_followed unlabelled_load
    load mstore8 clear_operands hints_of range_rule active_after insert_not_bool mark_not_bool set_tname fill set_dynamic set_array depth_up depth_of
    find_to find_in get_mut ensure seen_up make_seen get_or_create with_field update node_of ins kids kids_in spend_to spend
    shallow_to shallow seen_ones last_from last_word name_holds by_kind words_with type_at list_of text count decimal_to decimal
    name_text answer_text lines.list_lines lines.args_line lines.entry_lines lines.entry_line
bench_shown =
    record {
      all_twelve = refl;
      each = (
        (refl, tt),
        (
          (refl, tt),
          (
            (refl, tt),
            (
              (refl, tt),
              (
                (refl, tt),
                (
                  (refl, tt),
                  (
                    (refl, tt),
                    (
                      (refl, (refl, tt)),
                      (
                        (refl, (refl, tt)),
                        ((refl, tt), ((refl, tt), ((refl, (refl, tt)), tt))),
                      ),
                    ),
                  ),
                ),
              ),
            ),
          ),
        ),
      );
    }
