-- A table whose acquisition was paused: a reference to it is to be had, and it is not pinned; and the plain value before the first call has it dead.
use Rattle.std.proofs.Common.{◌≡◌, ℕ, ◌==◌, ◌&&◌, nat_lt, nat_le, if◌then◌else◌, Bool, true, false, Some, None, Err, refl, sym, ap, ◌∙◌, subst, arith}
use Rattle.std.proofs.lemmas.Bool.Decides.{nat_tests}
use Rattle.xp_words.specs.Machine.{Machine}
use Rattle.xp_words.specs.PageTypes.{type_number}
use Rattle.xp_words.specs.RefWords.{ref_read}
use Rattle.xp_words.specs.declared.place.Place.TheVariants.{Refs}
use Rattle.xp_words.specs.declared.refs.RefWord.TheVariants.{Owned}
use Rattle.xp_words.specs.declared.reply.Refusal.{Refusal}
use Rattle.xp_words.specs.declared.reply.Refusal.TheVariants as refusals
use Rattle.xp_words.specs.declared.reply.Stop.{Stop}
use Rattle.xp_words.specs.declared.reply.Stop.TheVariants.{Refused, Paused}
use Rattle.xp_board.specs.Readings.{ref_count}
use Rattle.xp_board.specs.Told.{PortValue, is_telling, told_word}
use Rattle.step_maker.specs.Answers.{Stops}
use Rattle.step_maker.specs.Asked.{Request, of_frame}
use Rattle.frame_words.specs.Plain.{refer, refer_by}
use Rattle.table_entries.specs.Acquiring.{GotRef}
use Rattle.table_law.specs.Alone.{NoFrame, take_reference, take_reference_of, refused}
use Rattle.table_law.specs.Plain.{Plain, Share}
use Rattle.table_twins.proofs.Sharing.{share_owned}
use Rattle.pause_laws.specs.Calls.{HasRoom}
use Rattle.pause_laws.proofs.Repeating.{full_word}
use Rattle.refusal_laws.specs.Repeated.{IsDeadFrame, IsKeptFrame}
use Rattle.script_law.specs.Frames.{is_pinned_as}

-- ---- a call that finds room is not refused for a count at its limit
never_full : (v w : PortValue) (r : Request) (g x : ℕ) → HasRoom v w → Stops v w r (Refused (refusals.CountFull g x)) → ⊥
unfolding Stops
never_full v w r g x room why =
    let at = why.4 in
    let low = room at.moment g at.was at.place in
    let full = full_word why.0 v.post.machine.limit x (ref_read x) refl why.5 in
    let found : ref_count at.moment.found ≡ ref_count x = ap ref_count at.word in
    omega arith

-- ---- a reference to it
only_full : (limit d f w : ℕ) (s : Share) (y : Refusal) → s.owner ≡ d → refer_by limit d f w (Some (Owned s.owner s.allocated s.count)) ≡ Some y → y ≡ refusals.CountFull f w
only_full limit d f w s y owns is = by_owner (s.owner == d) (nat_le limit s.count) (let e : (s.owner == d) ≡ true = grind (arith, nat_tests) in e) is
  where
    by_owner : (b k : Bool) → b ≡ true → (if b then (if k then Some (refusals.CountFull f w) else None) else Some (refusals.WrongOwner f w)) ≡ Some y → y ≡ refusals.CountFull f w
    by_owner true true on is = cc
    by_owner true false on is = absurd cc
    by_owner false k on is = absurd cc

module _ (v w : PortValue) (d f level : ℕ) (telling : is_telling v ≡ true) (k : IsKeptFrame v.post.machine (told_word v) f d level) (room : HasRoom v w) where
  full_only : (y : Refusal) → refer v.post.machine d f (told_word v (Refs f)) ≡ Some y → y ≡ refusals.CountFull f (told_word v (Refs f))
  full_only y is =
      let n = v.post.machine in
      let word = told_word v (Refs f) in
      let inside : nat_lt f n.frames ≡ true = (let e = k.inside in grind (arith, nat_tests)) in
      only_full n.limit d f word k.share y k.owns
      (sym (ap (refer_by n.limit d f word) (share_owned word (ref_read word) k.share k.held)) ∙ sym (ap (λ b. if b then refer_by n.limit d f word (ref_read word) else Some (refusals.NoFrame f)) inside) ∙ is)

  pub never_unreferred : (stop : Stop) → GotRef v w f d (Err stop) → ⊥
  never_unreferred (Refused y) ref =
      never_full v w (of_frame f d None) f (told_word v (Refs f)) room (subst (λ (z : Refusal). Stops v w (of_frame f d None) (Refused z)) (full_only y (ref.plain telling).0) ref.stops)
  never_unreferred (Paused y) ref = absurd (ref.plain telling)

-- ---- the plain value before
module _ (n : Machine) (d f level : ℕ) (p : Plain) (dead : IsDeadFrame n p f d) where
  pub dead_referred : (take_reference n d f p).refusal ≡ None
  dead_referred =
      let inside : nat_lt f n.frames ≡ true = (let e = dead.inside in grind (arith, nat_tests)) in
      let owns : (dead.share.owner == d) ≡ true = (let e = dead.owns in grind (arith, nat_tests)) in
      let room : nat_le n.limit dead.share.count ≡ false = (let e = dead.room in grind (arith, nat_tests)) in
      ap (λ b. (if b then take_reference_of n d f p (p.shares f) else refused (NoFrame f) p).refusal) inside ∙ ap (λ s. (take_reference_of n d f p s).refusal) dead.held ∙ rw (owns, room) refl

  pub dead_unpinned : is_pinned_as level (p.kinds f) ≡ false
  dead_unpinned = ap (λ b. b && (type_number (p.kinds f).kind == level)) dead.unpinned
