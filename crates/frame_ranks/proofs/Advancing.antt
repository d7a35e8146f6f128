-- Tables are worked on until the only one is full, the gate says yes, or an entry stops it.
use Rattle.std.proofs.Common.{◌≡◌, ℕ, ◌&&◌, if◌then◌else◌, Bool, true, false, List, [], ◌∷◌, Result, Ok, Err, refl, ap}
use Rattle.xp_words.specs.Machine.{Machine}
use Rattle.xp_words.specs.declared.reply.Pause.TheVariants.{Due}
use Rattle.xp_words.specs.declared.reply.Stop.{Stop}
use Rattle.xp_words.specs.declared.reply.Stop.TheVariants.{Paused}
use Rattle.xp_board.specs.Told.{PortValue, told_word}
use Rattle.partial_state.specs.declared.stack.TableWork.{TableWork}
use Rattle.table_entries.specs.Acquiring.{Advanced, Filled, TookOn, Worked, asked, begun, completed, cut_off, due, filled, fresh, is_asked, one_entry_more, opened, recorded, settled, stopped, table_opened, taken, unasked, unsettled, waiting}
use Rattle.course_laws.proofs.Awaiting.{AloneStays}
use Rattle.course_laws.proofs.Walking.{again_came, entry_came, filled_came, on_came}
use Rattle.frame_ranks.proofs.Going.{At, IsGoing, Led, advanced_never, at_later, completed_led, led_then, moved_self, on_never, opened_again, opened_moved, recorded_led, settled_moved, stopped_again, stopped_moved, taken_again, unsettled_moved, waiting_again}
use Rattle.frame_ranks.proofs.Valuing.{Moved, Works}

-- an entry is not done with
calmly : (n : Machine) (v w : PortValue) (ts us : List TableWork) (r : Result Bool Stop) → (r ≡ Ok true → ⊥) → Moved n (told_word v) ts (told_word w) us → Led {A = Result Bool Stop} n v ts w us r (Ok true)
calmly n v w ts us r unlike moved = record { moved = moved; strict = λ is. absurd (unlike is) }

module _ (stays : AloneStays) (n : Machine) (owner : ℕ) where
  pub on_led : (v : PortValue) (ts : List TableWork) (w : PortValue) (us : List TableWork) (r : Result Bool Stop) → TookOn owner v ts w us r → IsGoing r → At n v → Works n (told_word v) ts → Led {A = Result Bool Stop} n v ts w us r (Ok true)
  on_led _ _ _ _ _ (fresh v t ts none) going at works = calmly n v v (t ∷ ts) (t ∷ ts) (Ok false) (λ is. cc) (moved_self n (told_word v) (t ∷ ts) works)
  on_led _ _ _ _ _ (settled v w t ts some a) going at works = calmly n v w (t ∷ ts) (t ∷ ts) (Ok false) (λ is. cc) (settled_moved n owner v w t ts at works a)
  on_led _ _ _ _ _ (taken v u w t ts f some a b) going at works = taken_again n owner v w t ts at works u f (at_later stays n v u at (again_came v u owner t _ a)) a b
  on_led _ _ _ _ _ (opened v u w t ts us f progress answer some a b) going at works =
      let xs = table_opened t f progress false true ∷ t ∷ ts in
      let moved = opened_again n owner v u t ts at works f progress a in
      led_then n v (t ∷ ts) u xs w us answer (Ok true) moved (on_led u xs w us answer b going (at_later stays n v u at (again_came v u owner t _ a)) moved.works)
  on_led _ _ _ _ _ (waiting v u w t ts f stamp stop some a b) going at works =
      calmly n v w (t ∷ ts) (t ∷ ts) (Err stop) (λ is. cc) (waiting_again n owner v w t ts at works u f stamp stop (at_later stays n v u at (again_came v u owner t _ a)) a b)
  on_led _ _ _ _ _ (stopped v w t ts stop some a) going at works = calmly n v w (t ∷ ts) (t ∷ ts) (Err stop) (λ is. cc) (stopped_again n owner v w t ts at works stop going a)

  opened_led : (v u w : PortValue) (t : TableWork) (ts us : List TableWork) (f progress : ℕ) (own : Bool) (r : Result Bool Stop) → At n v → At n u → Moved n (told_word v) (t ∷ ts) (told_word u) (table_opened t f progress own false ∷ one_entry_more t ∷ ts) →
      TookOn owner u (table_opened t f progress own false ∷ one_entry_more t ∷ ts) w us r → IsGoing r → Led {A = Result Bool Stop} n v (t ∷ ts) w us r (Ok true)
  opened_led v u w t ts us f progress own r at there moved b going =
      let xs = table_opened t f progress own false ∷ one_entry_more t ∷ ts in
      led_then n v (t ∷ ts) u xs w us r (Ok true) moved (on_led u xs w us r b going there moved.works)

  pub advanced_led : (v : PortValue) (ts : List TableWork) (w : PortValue) (us : List TableWork) (r : Result Bool Stop) → Advanced owner v ts w us r → IsGoing r → At n v → Works n (told_word v) ts → Led {A = Result Bool Stop} n v ts w us r (Ok true)
  advanced_led _ _ _ _ _ (recorded v w t ts few a) going at works = recorded_led n owner v w t ts at works few a
  advanced_led _ _ _ _ _ (opened v u w t ts us f progress own done few a b) going at works =
      opened_led v u w t ts us f progress own (Ok done) at (at_later stays n v u at (entry_came v u owner t _ a)) (opened_moved n owner v u t ts at works f progress own few a) b going
  advanced_led _ _ _ _ _ (cut_off v u w t ts us f progress own stop few a b) going at works =
      opened_led v u w t ts us f progress own (Err stop) at (at_later stays n v u at (entry_came v u owner t _ a)) (opened_moved n owner v u t ts at works f progress own few a) b going
  advanced_led _ _ _ _ _ (unsettled v w t ts stop few a) going at works = calmly n v w (t ∷ ts) (one_entry_more t ∷ ts) (Err stop) (λ is. cc) (unsettled_moved n owner v w t ts at works stop few a)
  advanced_led _ _ _ _ _ (stopped v w t ts stop few a) going at works = calmly n v w (t ∷ ts) (t ∷ ts) (Err stop) (λ is. cc) (stopped_moved n owner v w t ts at works stop going a)
  advanced_led _ _ _ _ _ (completed v u w t outer ts full made a) going at works = completed_led n v u w t outer ts at works full made a

  -- ---- until it ends
  module _ (v : PortValue) (ts : List TableWork) (at : At n v) (works : Works n (told_word v) ts) (before : List Bool) where
    -- one entry or table behind the others
    more_led : (u w : PortValue) (us xs : List TableWork) (r : Result Bool Stop) → At n u → Moved n (told_word v) ts (told_word u) us → Advanced owner u us w xs r → IsGoing r → Led {A = Result Bool Stop} n v ts w xs r (Ok true)
    more_led u w us xs r there moved step going = led_then n v ts u us w xs r (Ok true) moved (advanced_led u us w xs r step going there moved.works)

    same_going : (stop : Stop) → IsGoing {A = Unit {0}} (Err stop) → IsGoing {A = Bool} (Err stop)
    same_going (Paused x) going = tt
    same_going _ going = absurd going

    pub filled_led : (w : PortValue) (us : List TableWork) (answers : List Bool) (r : Result (Unit {0}) Stop) → Filled owner v ts before w us answers r → IsGoing r → Led {A = Result (Unit {0}) Stop} n v ts w us r (Err (Paused Due))
    filled_led _ _ _ _ begun going = record { moved = moved_self n (told_word v) ts works; strict = λ is. absurd cc }
    filled_led _ _ _ _ (unasked u w us xs done answers earlier step off) going =
        let a = filled_led u us answers (Ok tt) earlier tt in
        let b = more_led u w us xs (Ok done) (at_later stays n v u at (filled_came owner v ts before u us answers (Ok tt) earlier)) a.moved step tt in
        record { moved = b.moved; strict = λ is. absurd cc }
    filled_led _ _ _ _ (asked u w us xs answers earlier step on) going =
        let a = filled_led u us answers (Ok tt) earlier tt in
        let b = more_led u w us xs (Ok true) (at_later stays n v u at (filled_came owner v ts before u us answers (Ok tt) earlier)) a.moved step tt in
        record { moved = b.moved; strict = λ is. absurd cc }
    filled_led _ _ _ _ (due u w us xs answers earlier step on) going =
        let a = filled_led u us answers (Ok tt) earlier tt in
        let b = more_led u w us xs (Ok true) (at_later stays n v u at (filled_came owner v ts before u us answers (Ok tt) earlier)) a.moved step tt in
        record { moved = b.moved; strict = λ is. b.strict refl }
    filled_led _ _ _ _ (stopped u w us xs answers stop earlier step) going =
        let a = filled_led u us answers (Ok tt) earlier tt in
        let b = more_led u w us xs (Err stop) (at_later stays n v u at (filled_came owner v ts before u us answers (Ok tt) earlier)) a.moved step (same_going stop going) in
        record { moved = b.moved; strict = λ is. let e : stop ≡ Paused Due = cc in absurd (advanced_never owner u us w xs (Err stop) step (ap (λ s. Err s) e)) }

  same_on : (stop : Stop) → IsGoing {A = Unit {0}} (Err stop) → IsGoing {A = Bool} (Err stop)
  same_on (Paused x) going = tt
  same_on _ going = absurd going

  pub worked_led : (v : PortValue) (t : TableWork) (w : PortValue) (us : List TableWork) (answers : List Bool) (r : Result (Unit {0}) Stop) → Worked owner v t w us answers r → IsGoing r → At n v → Works n (told_word v) (t ∷ []) →
      Led {A = Result (Unit {0}) Stop} n v (t ∷ []) w us r (Err (Paused Due))
  worked_led v t _ _ _ _ (cut_off w us stop a) going at works =
      let b = on_led v (t ∷ []) w us (Err stop) a (same_on stop going) at works in
      record { moved = b.moved; strict = λ is. let e : stop ≡ Paused Due = cc in absurd (on_never owner v (t ∷ []) w us (Err stop) a (ap (λ s. Err s) e)) }
  worked_led v t _ _ _ _ (due w us a on) going at works = let b = on_led v (t ∷ []) w us (Ok true) a tt at works in record { moved = b.moved; strict = λ is. b.strict refl }
  worked_led v t _ _ _ _ (filled u w us xs done answers answer a b) going at works =
      let c = on_led v (t ∷ []) u us (Ok done) a tt at works in
      let there = at_later stays n v u at (on_came owner v (t ∷ []) u us _ a) in
      led_then n v (t ∷ []) u us w xs answer (Err (Paused Due)) c.moved (filled_led u us there c.moved.works (if done && is_asked us then false ∷ [] else []) w xs answers answer b going)
