use Rattle.std.proofs.Common.{◌≡◌, ◌≤◌, sym, ap, ◌∙◌, subst, length}
use Rattle.std.specs.Slots.{slots_items}
use Rattle.xp_words.specs.Places.{sizes_of}
use Rattle.xp_board.specs.Sound.{SoundWords}
use Rattle.std.proofs.lemmas.List.{length-map}
use Rattle.thread_board.specs.declared.rule.Opening.{Opening}
use Rattle.thread_board.specs.OneRun.{OneRun}
use Rattle.thread_board.specs.Values.{BoardValue, held_by, PassValue}
use Rattle.thread_board.proofs.Gathering.{closes}
use Rattle.thread_board.proofs.Sharing.{some_words}
use Rattle.thread_board.proofs.board.SharedBoard.close.Goals as goal

pub gather-seat-requires-clause-words : goal.gather-seat-requires-clause-words
gather-seat-requires-clause-words c = subst (λ m. 1 ≤ m) (sym c.self.invariant.words) (some_words (sizes_of c.self.inside.opening.layout))

pub returns : goal.returns
returns c =
    let i = c.self.invariant in
    let o : Opening = c.self.inside.table.shared.key in
    let hands = held_by c.args.passes.items in
    let count : length hands ≡ (sizes_of o.layout).vcpus =
    length-map c.args.passes.items (λ (p : PassValue). p.holdings) ∙ (c.requires.count ∙ ap (λ (b : BoardValue). (sizes_of b.machine).vcpus) (sym c.self.view_is)) ∙ ap (λ (k : Opening). (sizes_of k.layout).vcpus) (sym i.key) in
    let begun : SoundWords o.layout o.words = subst (λ (k : Opening). SoundWords k.layout k.words) (sym i.key) i.sound in
    let all = closes c.every_run_stays_sound.ensures c.a_run_leaves_it_safe.ensures o _ _ _ _ hands c.close_with-closed.ensures.values.2 begun c.gather-seat.ensures.view count in
    rw c.copy_words.ensures
    (subst (λ (b : BoardValue). OneRun b.machine b.opening (slots_items c.close_with-closed.result.words) hands) c.self.view_is
    (subst (λ (k : Opening). OneRun k.layout k.words (slots_items c.close_with-closed.result.words) hands) i.key all))
