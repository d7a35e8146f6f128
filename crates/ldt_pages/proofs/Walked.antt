-- A walk, by the words that its steps found: its steps from port to port.
use Rattle.std.proofs.Common.{◌≡◌, ◌≢◌, ℕ, ◌-◌, ◌==◌, ◌&&◌, not, Bool, true, false, List, Option, None, Result, Ok, Err, refl, sym, ap, ◌∙◌, subst, arith}
use Rattle.std.proofs.lemmas.Bool.Decides.{nat_tests}
use Rattle.xp_words.specs.Entries.{frame_of, is_bit}
use Rattle.xp_words.specs.Machine.{Machine}
use Rattle.xp_words.specs.declared.place.Place.TheVariants.{Cell}
use Rattle.xp_words.specs.declared.reply.Pause.TheVariants.{Lost}
use Rattle.xp_words.specs.declared.reply.Refusal.TheVariants.{NotMapped}
use Rattle.xp_words.specs.declared.reply.Stop.{Stop}
use Rattle.xp_words.specs.declared.reply.Stop.TheVariants.{Paused, Refused}
use Rattle.xp_board.specs.declared.step.Act.TheVariants.{Load}
use Rattle.xp_board.specs.declared.step.StepKind.TheVariants as kinds
use Rattle.xp_board.specs.Told.{Post, PortValue}
use Rattle.step_maker.specs.Moves.{Moment, Moves, Ran}
use Rattle.step_maker.proofs.Coming.{came_post}
use Rattle.step_maker.specs.Licences.{is_unmapped}
use Rattle.step_maker.specs.Visits.{Does, Only, Visit, Where, visits}
use Rattle.step_maker.proofs.Visiting.{does_came}
use Rattle.tlb_walks.specs.Addresses.{index_of}
use Rattle.tlb_walks.specs.Flying as flying
use Rattle.tlb_walks.specs.Flying.{EntryMoves, PathMoves, WalkMoves}
use Rattle.tlb_walks.specs.Walks as by
use Rattle.tlb_walks.specs.Walks.{EndsAt, EntryBy, PathBy, WalkBy, barrier_with, base_visit, saw_entry, sets_bits, with_needed}
use Rattle.tlb_walks.specs.declared.walks.Walked.{Walked}
use Rattle.step_maker.proofs.Parts.{cut, parts, single, stayed}

-- ---- one entry
-- where no bit is set, the entry stands
both_bits : (b : Bool) (x new : ℕ) → b ≡ true → new ≢ x → (b && not (new == x)) ≡ true
both_bits b x new on off = let e : (new == x) ≡ false = grind (arith, nat_tests) in rw (on, e) refl

ends_met : (n : Machine) (table i level : ℕ) (barrier : Option ℕ) (x new found : ℕ) (answer : Result Walked Stop) → EndsAt n table i level barrier x new found answer → (is_bit 0 x && not (new == x)) ≡ false → found ≡ x
ends_met n table i level barrier x new found (Ok r) at off = at.2
ends_met n table i level barrier x new found (Err (Refused (NotMapped l e))) at off = at.3
ends_met n table i level barrier x new found (Err (Paused (Lost place e y))) at off = absurd (let on = both_bits (is_bit 0 x) x new at.3 at.4 in let no : true ≡ false = sym on ∙ off in cc)
ends_met n table i level barrier x new found (Err _) at off = absurd at

module _ (v w : PortValue) (table i x new found : ℕ) where
  entry_moves : ((is_bit 0 x && not (new == x)) ≡ false → found ≡ x) → Does v w (EntryBy table i x new found) → EntryMoves v w table i x new found
  entry_moves met a =
      let p = parts v w (Only (saw_entry table i x)) (Where (is_bit 0 x && not (new == x)) (Only (sets_bits table i x new found))) a in
      moved p.0 (single v p.0 (saw_entry table i x) p.1) (is_bit 0 x && not (new == x)) refl p.2
    where
      moved : (u : PortValue) → Moves v u (Cell table i) Load kinds.Fill None x → (b : Bool) → (is_bit 0 x && not (new == x)) ≡ b → Does u w (Where b (Only (sets_bits table i x new found))) → EntryMoves v w table i x new found
      moved u m true on d = flying.both u on m (single u w (sets_bits table i x new found) d)
      moved u m false off d = flying.alone off (met off) (subst (λ q. Moves v q (Cell table i) Load kinds.Fill None x) (sym (stayed u w d)) m)

-- ---- from a table down
module _ (w : PortValue) (n : Machine) (va : ℕ) (write : Bool) (answer : Result Walked Stop) where
  path_moves : (v : PortValue) (level table : ℕ) (b : Option ℕ) (vs : List Visit) (ms : List Moment) → n ≡ v.post.machine → Ran v ms w → visits ms ≡ vs → PathBy n va write answer level table b vs →
      PathMoves w va write answer v level table b
  unfolding Does
  path_moves v level table b vs ms same ran are (by.ends _ _ _ _ x found entry at) =
      let i = index_of va level in
      let new = with_needed write level (barrier_with b x) x in
      flying.ends v level table b x found (entry_moves v w table i x new found (ends_met n table i level (barrier_with b x) x new found answer at) (ms, ran, subst (EntryBy table i x new found) (sym are) entry))
      (subst (λ k. EndsAt k table i level (barrier_with b x) x new found answer) same at)
  path_moves v level table b vs ms same ran are (by.goes _ _ _ _ first rest x more mapped entry path is) =
      let i = index_of va level in
      let new = with_needed write level (barrier_with b x) x in
      let c = cut v w first rest ms ran (are ∙ is) in
      let before : Does v c.port (EntryBy table i x new x) = (c.ms, c.ran, subst (EntryBy table i x new x) (sym c.are) entry) in
      flying.goes v c.port level table b x more (subst (λ k. is_unmapped k x ≡ false) same mapped) (entry_moves v c.port table i x new x (λ off. refl) before)
      (path_moves c.port (level - 1) (frame_of x) (barrier_with b x) rest c.ns (same ∙ ap (λ (p : Post). p.machine) (sym (came_post v c.port (does_came v c.port (EntryBy table i x new x) before)))) c.goes c.more path)

-- ---- the whole walk
module _ (v w : PortValue) (user : Bool) (va : ℕ) (write : Bool) (answer : Result Walked Stop) where
  pub walk_moves : Does v w (WalkBy v.post.machine v.post.vcpu user va write answer) → WalkMoves v w user va write answer
  unfolding Does
  walk_moves a = way a.2
    where
      way : WalkBy v.post.machine v.post.vcpu user va write answer (visits a.0) → WalkMoves v w user va write answer
      way (by.barred x why is none) = flying.barred x why is (stayed v w (a.0, a.1, none))
      way (by.baseless go is only) = flying.baseless go is (single v w (base_visit v.post.vcpu user write 0) (a.0, a.1, only))
      way (by.walks base go some t) =
          let c = cut v w t.before t.after a.0 a.1 t.list in
          let first : Does v c.port (Only (base_visit v.post.vcpu user write base)) = (c.ms, c.ran, c.are ∙ t.first) in
          flying.walks c.port base go some (single v c.port (base_visit v.post.vcpu user write base) first)
          (path_moves w v.post.machine va write answer c.port 4 (base - 1) None t.after c.ns (ap (λ (p : Post). p.machine) (sym (came_post v c.port (does_came v c.port (Only (base_visit v.post.vcpu user write base)) first)))) c.goes c.more t.next)
