use Rattle.xp_words.specs.Places.{sizes_of, memory}
use Rattle.walk_audit.proofs.Checks.{passed_next, comes_first, each_top, ends}
use Rattle.walk_audit.proofs.deciding.first_unsound.Goals as goal

pub returns-in-Some-first_bad_context : goal.returns-in-Some-first_bad_context
returns-in-Some-first_bad_context c =
    let n = c.args.layout.now in
    let m = memory (sizes_of n) c.args.words.now in
    let t = each_top n m c.requires.readable in
    let p3 = passed_next n m 2 _ (t 2) c.requires.passed c.in_default.ensures in
    let p4 = passed_next n m 3 _ (t 3) p3 c.in_default-first_wrong_pages.ensures in
    let p5 = passed_next n m 4 _ (t 4) p4 c.in_default-first_bad_entry.ensures in
    comes_first n m 5 _ (t 5) _ p5 c.in-Some-first_bad_context.ensures

pub returns-in-Some-first_late : goal.returns-in-Some-first_late
returns-in-Some-first_late c =
    let n = c.args.layout.now in
    let m = memory (sizes_of n) c.args.words.now in
    let t = each_top n m c.requires.readable in
    let p3 = passed_next n m 2 _ (t 2) c.requires.passed c.in_default.ensures in
    let p4 = passed_next n m 3 _ (t 3) p3 c.in_default-first_wrong_pages.ensures in
    let p5 = passed_next n m 4 _ (t 4) p4 c.in_default-first_bad_entry.ensures in
    let p6 = passed_next n m 5 _ (t 5) p5 c.in_default-first_bad_context.ensures in
    comes_first n m 6 _ (t 6) _ p6 c.in-Some-first_late.ensures

pub returns-in-Some-first_unburied : goal.returns-in-Some-first_unburied
returns-in-Some-first_unburied c =
    let n = c.args.layout.now in
    let m = memory (sizes_of n) c.args.words.now in
    let t = each_top n m c.requires.readable in
    let p3 = passed_next n m 2 _ (t 2) c.requires.passed c.in_default.ensures in
    let p4 = passed_next n m 3 _ (t 3) p3 c.in_default-first_wrong_pages.ensures in
    let p5 = passed_next n m 4 _ (t 4) p4 c.in_default-first_bad_entry.ensures in
    let p6 = passed_next n m 5 _ (t 5) p5 c.in_default-first_bad_context.ensures in
    let p7 = passed_next n m 6 _ (t 6) p6 c.in_default-first_late.ensures in
    comes_first n m 7 _ (t 7) _ p7 c.in-Some-first_unburied.ensures

pub returns : goal.returns
returns c =
    let n = c.args.layout.now in
    let m = memory (sizes_of n) c.args.words.now in
    let t = each_top n m c.requires.readable in
    let p3 = passed_next n m 2 _ (t 2) c.requires.passed c.in_default.ensures in
    let p4 = passed_next n m 3 _ (t 3) p3 c.in_default-first_wrong_pages.ensures in
    let p5 = passed_next n m 4 _ (t 4) p4 c.in_default-first_bad_entry.ensures in
    let p6 = passed_next n m 5 _ (t 5) p5 c.in_default-first_bad_context.ensures in
    let p7 = passed_next n m 6 _ (t 6) p6 c.in_default-first_late.ensures in
    let p8 = passed_next n m 7 _ (t 7) p7 c.in_default-first_unburied.ensures in
    ends n m c.first_wrong_map.result (t 8) p8 c.first_wrong_map.ensures
