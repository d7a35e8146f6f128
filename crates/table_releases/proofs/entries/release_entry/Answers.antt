use Rattle.std.proofs.Common.{rules, ◌≡◌, ◌⊎◌, ◌<◌, sym, subst, ◌∙◌}
use Rattle.xp_words.specs.declared.entry.Demand.TheVariants.{Bad, Nothing}
use Rattle.xp_board.specs.Told.{Post}
use Rattle.table_entries.proofs.LastEntry.{seen_sheds}
use Rattle.table_releases.proofs.Ways.{frame_fits, plain_gives, plain_post, releases_nothing, releases_ref, sees_last, sees_typed}
use Rattle.table_releases.proofs.Looking.{looked_seen, plain_there, typed_there}
use Rattle.table_releases.proofs.entries.release_entry.Goals as goal

pub shed_entry-requires : goal.shed_entry-requires
shed_entry-requires g c =
    let r = c.requires in
    let look = c.look_cell-word.ensures in
    seen_sheds _ _ _ _ _ (looked_seen (sees_last look.moves look.hand r.frame r.index r.works r.above r.looked))

pub shed_entry-requires-in-Read : goal.shed_entry-requires-in-Read
shed_entry-requires-in-Read g c =
    let r = c.requires in
    let look = c.look_cell-word.ensures in
    seen_sheds _ _ _ _ _ (looked_seen (sees_last look.moves look.hand r.frame r.index r.works r.above r.looked))

pub overflow_cast-frame : goal.overflow_cast-frame
overflow_cast-frame g c =
    let r = c.requires in
    let look = c.look_cell-word.ensures in
    frame_fits _ _ r.may.machine (plain_there (sees_last look.moves look.hand r.frame r.index r.works r.above r.looked) _ (sym c.demand.ensures ∙ c.in-Read.is))

pub put_ref-requires : goal.put_ref-requires
put_ref-requires g c =
    let r = c.requires in
    let look = c.look_cell-word.ensures in
    let shed = c.shed_entry-in-Read.ensures in
    let l = sees_last look.moves look.hand r.frame r.index r.works r.above r.looked in
    let asks = sym c.demand.ensures ∙ c.in-Read.is in
    record {
      frame = subst (λ (p : Post). c.in-Read.frame < p.machine.frames) (sym (plain_post l shed.moves shed.hand _ asks)) (plain_there l _ asks);
      may = search rules;
      gives = plain_gives l shed.moves shed.hand _ asks;
    }

pub overflow_cast-frame-in-Typed : goal.overflow_cast-frame-in-Typed
overflow_cast-frame-in-Typed g c =
    let r = c.requires in
    let look = c.look_cell-word.ensures in
    frame_fits _ _ r.may.machine (typed_there (sees_last look.moves look.hand r.frame r.index r.works r.above r.looked) _ _ (sym c.demand.ensures ∙ c.in-Typed.is))

pub release_typed-requires-clause-seen : goal.release_typed-requires-clause-seen
release_typed-requires-clause-seen g c =
    let r = c.requires in
    let look = c.look_cell-word.ensures in
    (_, _, _, sees_typed (sees_last look.moves look.hand r.frame r.index r.works r.above r.looked) (sym c.demand.ensures ∙ c.in-Typed.is))

pub returns-in-Nothing : goal.returns-in-Nothing
returns-in-Nothing g c =
    let r = c.requires in
    let look = c.look_cell-word.ensures in
    releases_nothing (sees_last look.moves look.hand r.frame r.index r.works r.above r.looked) c.shed_entry.ensures.moves c.shed_entry.ensures.hand (subst (λ d. (d ≡ Nothing) ⊎ (d ≡ Bad)) c.demand.ensures c.in-Nothing.is)

pub returns-in-Read : goal.returns-in-Read
returns-in-Read g c =
    let r = c.requires in
    let look = c.look_cell-word.ensures in
    let back = c.put_ref.ensures in
    releases_ref (sees_last look.moves look.hand r.frame r.index r.works r.above r.looked) c.shed_entry-in-Read.ensures.moves c.shed_entry-in-Read.ensures.hand (sym c.demand.ensures ∙ c.in-Read.is) back.serves back.puts back.hand back.plain

pub returns-in-Typed : goal.returns-in-Typed
returns-in-Typed g c =
    let r = c.requires in
    let look = c.look_cell-word.ensures in
    c.release_typed.ensures _ _ _ (sees_typed (sees_last look.moves look.hand r.frame r.index r.works r.above r.looked) (sym c.demand.ensures ∙ c.in-Typed.is))
