-- Who a flush is waited for runs, and stays asked for it.
use Rattle.std.proofs.Common.{◌≡◌, ◌≢◌, ℕ, ◌<◌, ◌≤◌, ◌==◌, ◌||◌, true, false, length, refl, sym, ap, ◌∙◌, subst, arith}
use Rattle.xp_words.specs.Places.{asked_of, flushed_of, run_of}
use Rattle.xp_words.specs.declared.place.Place.TheVariants.{Vcpu}
use Rattle.xp_words.specs.declared.reply.Pause.TheVariants.{Flush}
use Rattle.xp_words.specs.declared.reply.Stop.TheVariants.{Paused}
use Rattle.xp_board.specs.declared.step.Act.{Act}
use Rattle.xp_board.specs.declared.step.Act.TheVariants.{Max}
use Rattle.xp_board.specs.Acts.{left_by}
use Rattle.xp_board.specs.Readings.{is_context}
use Rattle.xp_board.specs.Told.{Post, PortValue, is_telling, told_word}
use Rattle.step_maker.specs.Moves.{Came, Met}
use Rattle.step_maker.proofs.Coming.{came_post, came_trans, moves_came}
use Rattle.step_maker.proofs.Telling.{came_telling, told_here, told_there}
use Rattle.step_maker.specs.Answers.{Stops}
use Rattle.step_maker.specs.Finding.{FoundAt}
use Rattle.step_maker.specs.Pauses.{AskedTo}
use Rattle.turn_measures.proofs.AskedOthers.{others_least, others_same}
use Rattle.turn_measures.proofs.PausedForFlush.{StopsWithin}

-- ---- what was found of another vCPU stays so
module _ (v w : PortValue) (u : ℕ) (other : u ≢ v.post.vcpu) (is : is_telling v ≡ true) where
  still : (x : PortValue) → Came v x → u ≢ x.post.vcpu
  still x came = subst (λ (q : Post). u ≢ q.vcpu) (sym (came_post v x came)) other

  found_stays : (from to : PortValue) (k x : ℕ) → k ≢ 4 → (is_context k || (k == 7)) ≡ false → Came v from → Came to w → FoundAt (Met from to) (Vcpu u k) x → told_word w (Vcpu u k) ≡ x
  found_stays from to k x off plain before after f =
      let met = f.was in
      let m = f.moment in
      let came = came_trans v from met.from before met.before in
      let telling = came_telling v met.from came ∙ is in
      others_same met.from u k (still met.from came) plain telling w
      (came_trans met.from met.to w (moves_came met.from met.to m.place m.act m.kind m.mark m.found met.moved.moves) (came_trans met.to to w met.after after)) off
      ∙ ap (told_word met.from) (sym f.place) ∙ told_there met.from met.to m.place m.act m.kind m.mark m.found met.moved.moves telling ∙ f.word

  asked_stays : (from to : PortValue) (stamp : ℕ) → Came v from → Came to w → AskedTo stamp (Met from to) u → stamp ≤ told_word w (asked_of u)
  unfolding left_by
  asked_stays from to stamp before after a =
      let d = a.did in
      let met = d.was in
      let m = d.moment in
      let came = came_trans v from met.from before met.before in
      let telling = came_telling v met.from came ∙ is in
      let moved = moves_came met.from met.to m.place m.act m.kind m.mark m.found met.moved.moves in
      let left : told_word met.to (asked_of u) ≡ left_by (Max stamp) m.found =
      ap (told_word met.to) (sym d.place) ∙ told_here met.from met.to m.place m.act m.kind m.mark m.found met.moved.moves telling ∙ ap (λ (b : Act). left_by b m.found) d.act in
      let least = others_least met.to u 4 (still met.to (came_trans v met.from met.to came moved)) refl (came_telling met.from met.to moved ∙ telling) w (came_trans met.to to w met.after after) in
      omega (arith, left, least)

module _ (v w : PortValue) (u stamp found : ℕ) (s : StopsWithin v w (Paused (Flush u stamp found))) where
  pub waited_other : (u ≢ v.post.vcpu) × (u < length v.post.machine.vcpu_domain)
  unfolding Stops
  waited_other = let behind = s.stops.1 in subst (λ (q : Post). (u ≢ q.vcpu) × (u < length q.machine.vcpu_domain)) (came_post v s.from s.before) (behind.other, behind.real)

  pub waited_runs : is_telling v ≡ true → told_word w (run_of u) ≡ 0
  unfolding Stops
  waited_runs is = found_stays v w u waited_other.0 is s.from s.to 6 0 (λ e. cc) refl s.before s.after s.stops.1.running

  pub waited_asked : is_telling v ≡ true → told_word w (flushed_of u) ≤ told_word w (asked_of u)
  unfolding Stops
  waited_asked is =
      let behind = s.stops.1 in
      let flushed = found_stays v w u waited_other.0 is s.from s.to 5 found (λ e. cc) refl s.before s.after behind.flushed in
      let asked = asked_stays v w u waited_other.0 is s.from s.to stamp s.before s.after behind.asked in
      let most = behind.behind in
      omega (arith, flushed, asked, most)
