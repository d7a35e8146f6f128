-- Pins and unpins are determined by the words found and by the gate's answers.
use Rattle.std.proofs.Common.{◌≡◌, ◌≢◌, ℕ, Bool, true, false, List, [], None, Result, Ok, Err, IfErr, refl, sym, ap, ◌∙◌, subst}
use Rattle.xp_words.specs.KindWords.{kind_fields, kind_write}
use Rattle.xp_words.specs.Places.{number, sizes_of}
use Rattle.xp_words.specs.declared.place.Place.TheVariants.{Kind}
use Rattle.xp_words.specs.declared.reply.Pause.TheVariants.{Due, Lost}
use Rattle.xp_words.specs.declared.reply.Refusal.TheVariants as refusals
use Rattle.xp_words.specs.declared.reply.Stop.{Stop}
use Rattle.xp_words.specs.declared.reply.Stop.TheVariants.{Paused, Refused}
use Rattle.xp_board.specs.Told.{PortValue}
use Rattle.xp_board.specs.declared.step.Act.TheVariants.{Store}
use Rattle.xp_board.specs.declared.step.StepKind.TheVariants as kinds
use Rattle.step_maker.specs.Moves.{Came, Moves}
use Rattle.step_maker.proofs.Coming.{came_self, came_trans, moves_came}
use Rattle.partial_state.specs.Levels.{level_type}
use Rattle.kind_words.specs.Kinds.{partial_kind}
use Rattle.xp_preempt.specs.Gates.{GivesAnswers}
use Rattle.table_entries.specs.Acquiring.{Acquired, GaveRef, GotRef, Named}
use Rattle.table_entries.proofs.Shared.{ref_came, gave_came}
use Rattle.course_laws.proofs.Stopping.{acquired_came}
use Rattle.level_release.specs.Course.{WasReleased}
use Rattle.mmuext_ops.specs.Course as course
use Rattle.mmuext_ops.specs.Course.{GivenUp, PinEnds, Pinned, IsPinnedAs, SawKind, SetsPin, TakesPinOff, Unpinned, is_pinned}
use Rattle.determined_laws.specs.Courses.{Alike}
use Rattle.determined_laws.proofs.Calls.{drops_type_alike, drops_type_came, gets_alike, puts_alike}
use Rattle.determined_laws.proofs.Courses.{alike_apart, alike_map, alike_move, alike_next, alike_same}
use Rattle.determined_calls.proofs.Below.{acquired_alike, released_alike, released_came}

-- ---- a typed reference to a live table is given back
pub given_up_came : {v w : PortValue} {f level : ℕ} {kept : Bool} → GivenUp v f level kept w → Came v w
given_up_came {v} {f = f} (course.GivenUp.shared u w kept drops gave) = came_trans v u w (drops_type_came drops) (gave_came u w f gave)
given_up_came {v} (course.GivenUp.marked u w x drops stores) = came_trans v u w (drops_type_came drops) (moves_came u w _ _ _ _ _ stores)
given_up_came {v} (course.GivenUp.named u y w x drops stores names) = came_trans v u w (drops_type_came drops) (came_trans u y w (moves_came u y _ _ _ _ _ stores) (moves_came y w _ _ _ _ _ names))

pub given_up_alike : {v w x : PortValue} {f level : ℕ} {kept : Bool} → GivenUp v f level kept w → GivenUp v f level kept x → Alike v w x (Unit {0})
given_up_alike {f = f} (course.GivenUp.shared u w kept p gave) (course.GivenUp.shared y x _ q gone) =
    alike_next (λ z. GaveRef z x f) (drops_type_came p) (gave_came u w f gave) (gave_came y x f gone) (drops_type_alike p q) gone (λ e more. puts_alike f gave.found more.found)
given_up_alike {f = f} (course.GivenUp.shared u w kept p gave) (course.GivenUp.marked y x m q stores) = alike_apart (gave_came u w f gave) (moves_came y x _ _ _ _ _ stores) (drops_type_alike p q) (λ e. cc)
given_up_alike {f = f} (course.GivenUp.shared u w kept p gave) (course.GivenUp.named y k x m q stores names) =
    alike_apart (gave_came u w f gave) (came_trans y k x (moves_came y k _ _ _ _ _ stores) (moves_came k x _ _ _ _ _ names)) (drops_type_alike p q) (λ e. cc)
given_up_alike {f = f} (course.GivenUp.marked y x m q stores) (course.GivenUp.shared u w kept p gave) = alike_apart (moves_came y x _ _ _ _ _ stores) (gave_came u w f gave) (drops_type_alike q p) (λ e. cc)
given_up_alike {f = f} {level} (course.GivenUp.marked u w m p stores) (course.GivenUp.marked y x k q puts) =
    alike_next (λ z. Moves z x (Kind f) (Store (kind_write (partial_kind (level_type level) true false 512 0))) kinds.Kind None k) (drops_type_came p) (moves_came u w _ _ _ _ _ stores) (moves_came y x _ _ _ _ _ puts) (drops_type_alike p q) puts
    (λ e more. alike_map (alike_move stores more) (λ s. tt))
given_up_alike {f = f} (course.GivenUp.named y k x m q stores names) (course.GivenUp.shared u w kept p gave) =
    alike_apart (came_trans y k x (moves_came y k _ _ _ _ _ stores) (moves_came k x _ _ _ _ _ names)) (gave_came u w f gave) (drops_type_alike q p) (λ e. cc)
given_up_alike {f = f} {level} (course.GivenUp.named u a w m p stores names) (course.GivenUp.named y b x k q puts calls) =
    alike_next (λ z. Moves z b (Kind f) (Store (kind_write (partial_kind (level_type level) false false 512 0))) kinds.Kind None k) (drops_type_came p) (came_trans u a w (moves_came u a _ _ _ _ _ stores) (moves_came a w _ _ _ _ _ names))
    (came_trans y b x (moves_came y b _ _ _ _ _ puts) (moves_came b x _ _ _ _ _ calls)) (drops_type_alike p q) puts
    (λ e more. alike_next (λ z. Named z x f) (moves_came u a _ _ _ _ _ stores) (moves_came a w _ _ _ _ _ names) (moves_came b x _ _ _ _ _ calls) (alike_move stores more) calls (λ s last. alike_map (alike_move names last) (λ t. tt)))

-- ---- the pin of a live table
module _ (f level : ℕ) where
  abbrev Done : Type 0
  Done = Result (Unit {0}) Stop

  -- behind the try to set it: the exchange of x met found
  data Tried (n : PortValue) (y w : PortValue) (x found : ℕ) (a : Done) : Type 0 where
    pinned : found ≡ x → w ≡ y → a ≡ Ok tt → Tried n y w x found a
    raced : found ≢ x → is_pinned found ≡ true → GivenUp y f level false w → a ≡ Err (Refused (refusals.AlreadyPinned found)) → Tried n y w x found a
    lost : found ≢ x → is_pinned found ≡ false → GivenUp y f level true w → a ≡ Err (Paused (Lost (number (sizes_of n.post.machine) (Kind f)) x found)) → Tried n y w x found a

  -- behind the look
  data Ended (n : PortValue) (u w : PortValue) (x : ℕ) (a : Done) : Type 0 where
    seen : is_pinned x ≡ true → GivenUp u f level false w → a ≡ Err (Refused (refusals.AlreadyPinned x)) → Ended n u w x a
    tried : (y : PortValue) (found : ℕ) → is_pinned x ≡ false → SetsPin u y f x found → Tried n y w x found a → Ended n u w x a

  data Ends (v w : PortValue) (a : Done) : Type 0 where
    looked : (u : PortValue) (x : ℕ) → SawKind v u f x → Ended v u w x a → Ends v w a

  ends : (v w : PortValue) (a : Done) → PinEnds v w f level a → Ends v w a
  ends v w _ (course.PinEnds.pinned u x saw off sets) = looked u x saw (tried w x off sets (pinned refl refl refl))
  ends v w _ (course.PinEnds.seen u x saw on gives) = looked u x saw (seen on gives refl)
  ends v w _ (course.PinEnds.raced u y x found saw off sets other on gives) = looked u x saw (tried y found off sets (raced other on gives refl))
  ends v w _ (course.PinEnds.lost u y x found saw off sets other bare gives) = looked u x saw (tried y found off sets (lost other bare gives refl))

  tried_came : {n y w : PortValue} {x found : ℕ} {a : Done} → Tried n y w x found a → Came y w
  tried_came {y = y} (pinned is same end) = subst (λ z. Came y z) (sym same) (came_self y)
  tried_came (raced other on gives end) = given_up_came gives
  tried_came (lost other bare gives end) = given_up_came gives

  ended_came : {n u w : PortValue} {x : ℕ} {a : Done} → Ended n u w x a → Came u w
  ended_came (seen on gives end) = given_up_came gives
  ended_came {u = u} {w} (tried y found off sets rest) = came_trans u y w (moves_came u y _ _ _ _ _ sets) (tried_came rest)

  flag_apart : {A : Type 0} (x : ℕ) → is_pinned x ≡ true → is_pinned x ≡ false → A
  flag_apart x on off = absurd (let e = sym on ∙ off in cc)

  tried_alike : {n y w z : PortValue} {x found : ℕ} {a b : Done} → Tried n y w x found a → Tried n y z x found b → Alike y w z (a ≡ b)
  tried_alike (pinned is same end) (pinned also still ends) = alike_same (same ∙ sym still) (end ∙ sym ends)
  tried_alike (pinned is same end) (raced other on gives ends) = absurd (other is)
  tried_alike (pinned is same end) (lost other bare gives ends) = absurd (other is)
  tried_alike (raced other on gives end) (pinned is same ends) = absurd (other is)
  tried_alike (raced other on gives end) (raced out also gave ends) = alike_map (given_up_alike gives gave) (λ s. end ∙ sym ends)
  tried_alike {found = found} (raced other on gives end) (lost out bare gave ends) = flag_apart found on bare
  tried_alike (lost other bare gives end) (pinned is same ends) = absurd (other is)
  tried_alike {found = found} (lost other bare gives end) (raced out on gave ends) = flag_apart found on bare
  tried_alike (lost other bare gives end) (lost out also gave ends) = alike_map (given_up_alike gives gave) (λ s. end ∙ sym ends)

  ended_alike : {n u w z : PortValue} {x : ℕ} {a b : Done} → Ended n u w x a → Ended n u z x b → Alike u w z (a ≡ b)
  ended_alike (seen on gives end) (seen also gave ends) = alike_map (given_up_alike gives gave) (λ s. end ∙ sym ends)
  ended_alike {x = x} (seen on gives end) (tried y found off sets rest) = flag_apart x on off
  ended_alike {x = x} (tried y found off sets rest) (seen on gives end) = flag_apart x on off
  ended_alike {n} {u} {w} {z} {x} {b = b} (tried y found off sets rest) (tried d other bare puts more) =
      alike_next (λ k. Tried n k z x other b) (moves_came u y _ _ _ _ _ sets) (tried_came rest) (tried_came more) (alike_move sets puts) more
      (λ e behind. tried_alike rest (subst (λ k. Tried n y z x k b) (sym e) behind))

pub pin_ends_came : {v w : PortValue} {f level : ℕ} {a : Result (Unit {0}) Stop} → PinEnds v w f level a → Came v w
pin_ends_came {v} {w} {f} {level} {a} p = by (ends f level v w a p)
  where
    by : Ends f level v w a → Came v w
    by (looked u x saw rest) = came_trans v u w (moves_came v u _ _ _ _ _ saw) (ended_came f level rest)

pub pin_ends_alike : {v w x : PortValue} {f level : ℕ} {a b : Result (Unit {0}) Stop} → PinEnds v w f level a → PinEnds v x f level b → Alike v w x (a ≡ b)
pin_ends_alike {v} {w} {x} {f} {level} {a} {b} p q = by (ends f level v w a p) (ends f level v x b q)
  where
    by : Ends f level v w a → Ends f level v x b → Alike v w x (a ≡ b)
    by (looked u m saw rest) (looked c n see more) =
        alike_next (λ k. Ended f level v k x n b) (moves_came v u _ _ _ _ _ saw) (ended_came f level rest) (ended_came f level more) (alike_move saw see) more
        (λ e behind. ended_alike f level rest (subst (λ k. Ended f level v u x k b) (sym e) behind))

-- ---- a pin
module _ (d f level : ℕ) where
  -- behind the try to acquire it
  data Had (e w : PortValue) (a : Result (Unit {0}) Stop) : Result ℕ Stop → Type 0 where
    refused : (stop : Stop) → w ≡ e → a ≡ Err stop → Had e w a (Err stop)
    acquired : (g : ℕ) → PinEnds e w f level a → Had e w a (Ok g)

  -- behind the look under a reference of its own
  data Behind (c w : PortValue) (x : ℕ) (answers : List Bool) (a : Result (Unit {0}) Stop) : Type 0 where
    pinned : IsPinnedAs level x → w ≡ c → answers ≡ [] → a ≡ Err (Refused (refusals.AlreadyPinned x)) → Behind c w x answers a
    tried : (e : PortValue) (r : Result ℕ Stop) → (IsPinnedAs level x → ⊥) → Acquired c f d level e answers r → Had e w a r → Behind c w x answers a

  data Pins (v w : PortValue) (answers : List Bool) (a : Result (Unit {0}) Stop) : Type 0 where
    unreferred : (stop : Stop) → GotRef v w f d (Err stop) → answers ≡ [] → a ≡ Err stop → Pins v w answers a
    referred : (m b c : PortValue) (x : ℕ) → GotRef v m f d (Ok f) → SawKind m b f x → GaveRef b c f → Behind c w x answers a → Pins v w answers a

  pins : (v w : PortValue) (answers : List Bool) (a : Result (Unit {0}) Stop) → Pinned v w d f level answers a → Pins v w answers a
  pins v w _ _ (course.Pinned.unreferred stop got) = unreferred stop got refl refl
  pins v w _ _ (course.Pinned.pinned_before a b x got saw gave is) = referred a b w x got saw gave (pinned is refl refl refl)
  pins v w _ _ (course.Pinned.refused a b c x answers stop got saw gave off had) = referred a b c x got saw gave (tried w (Err stop) off had (refused stop refl refl))
  pins v w _ _ (course.Pinned.acquired a b c e x answers answer got saw gave off had end) = referred a b c x got saw gave (tried e (Ok f) off had (acquired f end))

  had_came : {e w : PortValue} {a : Result (Unit {0}) Stop} {r : Result ℕ Stop} → Had e w a r → Came e w
  had_came {e} (refused stop same end) = subst (λ z. Came e z) (sym same) (came_self e)
  had_came (acquired g p) = pin_ends_came p

  behind_came : {c w : PortValue} {x : ℕ} {answers : List Bool} {a : Result (Unit {0}) Stop} → Behind c w x answers a → Came c w
  behind_came {c} (pinned is same none end) = subst (λ z. Came c z) (sym same) (came_self c)
  behind_came {c} {w} {answers = answers} (tried e r off had rest) = came_trans c e w (acquired_came c f d level e answers r had) (had_came rest)

  pins_came : {v w : PortValue} {answers : List Bool} {a : Result (Unit {0}) Stop} → Pins v w answers a → Came v w
  pins_came {v} {w} (unreferred stop got none end) = ref_came v w f d _ got
  pins_came {v} {w} (referred m b c x got saw gave rest) = came_trans v m w (ref_came v m f d _ got) (came_trans m b w (moves_came m b _ _ _ _ _ saw) (came_trans b c w (gave_came b c f gave) (behind_came rest)))

  had_alike : {e w z : PortValue} {a b : Result (Unit {0}) Stop} {r : Result ℕ Stop} → Had e w a r → Had e z b r → Alike e w z (a ≡ b)
  had_alike (refused stop same end) (refused _ still ends) = alike_same (same ∙ sym still) (end ∙ sym ends)
  had_alike (acquired g p) (acquired _ q) = pin_ends_alike p q

  module _ (says : ℕ → Bool) (n : ℕ) where
    behind_alike : {c w z : PortValue} {x : ℕ} {answers others : List Bool} {a b : Result (Unit {0}) Stop} → GivesAnswers says n answers → GivesAnswers says n others →
        Behind c w x answers a → Behind c z x others b → Alike c w z ((answers ≡ others) × (a ≡ b))
    behind_alike one two (pinned is same none end) (pinned also still bare ends) = alike_same (same ∙ sym still) (none ∙ sym bare, end ∙ sym ends)
    behind_alike one two (pinned is same none end) (tried e r off had rest) = absurd (off is)
    behind_alike one two (tried e r off had rest) (pinned is same none end) = absurd (off is)
    behind_alike {c} {w} {z} {answers = answers} {others} {a} {b} one two (tried e r off had rest) (tried k s out has more) =
        alike_next (λ y. Had y z b s) (acquired_came c f d level e answers r had) (had_came rest) (had_came more) (acquired_alike says n one two had has) more
        (λ t behind. alike_map (had_alike rest (subst (λ y. Had e z b y) (sym t.1) behind)) (λ q. (t.0, q)))

    pins_alike : {v w z : PortValue} {answers others : List Bool} {a b : Result (Unit {0}) Stop} → GivesAnswers says n answers → GivesAnswers says n others →
        Pins v w answers a → Pins v z others b → Alike v w z ((answers ≡ others) × (a ≡ b))
    pins_alike one two (unreferred stop got none end) (unreferred halt gets bare ends) =
        alike_map (gets_alike {A = ℕ} f d (Err stop) (Err halt) got.found gets.found) (λ s. (none ∙ sym bare, end ∙ (ap (λ k. Err k) s ∙ sym ends)))
    pins_alike {v} {w} {z} one two (unreferred stop got none end) (referred m b c x gets saw gave rest) =
        alike_apart (came_self w) (came_trans m b z (moves_came m b _ _ _ _ _ saw) (came_trans b c z (gave_came b c f gave) (behind_came rest))) (gets_alike {A = ℕ} f d (Err stop) (Ok f) got.found gets.found) (λ s. absurd s)
    pins_alike {v} {w} {z} one two (referred m b c x gets saw gave rest) (unreferred stop got none end) =
        alike_apart (came_trans m b w (moves_came m b _ _ _ _ _ saw) (came_trans b c w (gave_came b c f gave) (behind_came rest))) (came_self z) (gets_alike {A = ℕ} f d (Ok f) (Err stop) gets.found got.found) (λ s. absurd s)
    pins_alike {v} {w} {z} {answers} {others} {a} {b} one two (referred m k c x got saw gave rest) (referred i j e y gets see gives more) =
        alike_next (λ q. SawKind q j f y) (ref_came v m f d _ got) (came_trans m k w (moves_came m k _ _ _ _ _ saw) (came_trans k c w (gave_came k c f gave) (behind_came rest)))
        (came_trans i j z (moves_came i j _ _ _ _ _ see) (came_trans j e z (gave_came j e f gives) (behind_came more))) (gets_alike {A = ℕ} f d (Ok f) (Ok f) got.found gets.found) see
        (λ t again. alike_next (λ q. GaveRef q e f) (moves_came m k _ _ _ _ _ saw) (came_trans k c w (gave_came k c f gave) (behind_came rest)) (came_trans j e z (gave_came j e f gives) (behind_came more)) (alike_move saw again) gives
        (λ same back. alike_next (λ q. Behind q z y others b) (gave_came k c f gave) (behind_came rest) (behind_came more) (puts_alike f gave.found back.found) more
        (λ u behind. behind_alike one two rest (subst (λ q. Behind c z q others b) (sym same) behind))))

pub pinned_came : {v w : PortValue} {d f level : ℕ} {answers : List Bool} {a : Result (Unit {0}) Stop} → Pinned v w d f level answers a → Came v w
pinned_came {v} {w} {d} {f} {level} {answers} {a} p = pins_came d f level (pins d f level v w answers a p)

pub pinned_alike : {v w x : PortValue} {d f level : ℕ} {answers others : List Bool} {a b : Result (Unit {0}) Stop} (says : ℕ → Bool) (n : ℕ) → GivesAnswers says n answers → GivesAnswers says n others →
    Pinned v w d f level answers a → Pinned v x d f level others b → Alike v w x ((answers ≡ others) × (a ≡ b))
pinned_alike {v} {w} {x} {d} {f} {level} {answers} {others} {a} {b} says n one two p q = pins_alike d f level says n one two (pins d f level v w answers a p) (pins d f level v x others b q)

-- ---- an unpin
module _ (d f : ℕ) where
  -- behind the exchange that is to take the pin off, and met found
  data Off (n e w : PortValue) (x found : ℕ) (answers : List Bool) (a : Result (Unit {0}) Stop) : Type 0 where
    raced : found ≢ x → is_pinned found ≡ false → w ≡ e → answers ≡ [] → a ≡ Err (Refused (refusals.NotPinned found)) → Off n e w x found answers a
    lost : found ≢ x → is_pinned found ≡ true → w ≡ e → answers ≡ [] → a ≡ Err (Paused (Lost (number (sizes_of n.post.machine) (Kind f)) x found)) → Off n e w x found answers a
    released : (r : Result (Unit {0}) Stop) → found ≡ x → WasReleased e f (kind_fields x).kind w answers r → a ≡ Ok tt → Off n e w x found answers a

  data Seen (n b w : PortValue) (x : ℕ) (answers : List Bool) (a : Result (Unit {0}) Stop) : Type 0 where
    unpinned : is_pinned x ≡ false → GaveRef b w f → answers ≡ [] → a ≡ Err (Refused (refusals.NotPinned x)) → Seen n b w x answers a
    tried : (c e : PortValue) (found : ℕ) → is_pinned x ≡ true → TakesPinOff b c f x found → GaveRef c e f → Off n e w x found answers a → Seen n b w x answers a

  data Unpins (v w : PortValue) (answers : List Bool) (a : Result (Unit {0}) Stop) : Type 0 where
    unreferred : (stop : Stop) → GotRef v w f d (Err stop) → answers ≡ [] → a ≡ Err stop → Unpins v w answers a
    referred : (m b : PortValue) (x : ℕ) → GotRef v m f d (Ok f) → SawKind m b f x → Seen v b w x answers a → Unpins v w answers a

  unpins : (v w : PortValue) (answers : List Bool) (a : Result (Unit {0}) Stop) → Unpinned v w d f answers a → Unpins v w answers a
  unpins v w _ _ (course.Unpinned.unreferred stop got) = unreferred stop got refl refl
  unpins v w _ _ (course.Unpinned.unpinned_before a b x got saw off gave) = referred a b x got saw (unpinned off gave refl refl)
  unpins v w _ _ (course.Unpinned.raced a b c x found got saw on takes other off gave) = referred a b x got saw (tried c w found on takes gave (raced other off refl refl refl))
  unpins v w _ _ (course.Unpinned.lost a b c x found got saw on takes other also gave) = referred a b x got saw (tried c w found on takes gave (lost other also refl refl refl))
  unpins v w _ _ (course.Unpinned.released a b c e x answers r got saw on takes gave run fits) = referred a b x got saw (tried c e x on takes gave (released r refl run refl))

  off_came : {n e w : PortValue} {x found : ℕ} {answers : List Bool} {a : Result (Unit {0}) Stop} → Off n e w x found answers a → Came e w
  off_came {e = e} (raced other bare same none end) = subst (λ z. Came e z) (sym same) (came_self e)
  off_came {e = e} (lost other on same none end) = subst (λ z. Came e z) (sym same) (came_self e)
  off_came (released r is run end) = released_came run

  seen_came : {n b w : PortValue} {x : ℕ} {answers : List Bool} {a : Result (Unit {0}) Stop} → Seen n b w x answers a → Came b w
  seen_came {b = b} {w} (unpinned off gave none end) = gave_came b w f gave
  seen_came {b = b} {w} (tried c e found on takes gave rest) = came_trans b c w (moves_came b c _ _ _ _ _ takes) (came_trans c e w (gave_came c e f gave) (off_came rest))

  unpins_came : {v w : PortValue} {answers : List Bool} {a : Result (Unit {0}) Stop} → Unpins v w answers a → Came v w
  unpins_came {v} {w} (unreferred stop got none end) = ref_came v w f d _ got
  unpins_came {v} {w} (referred m b x got saw rest) = came_trans v m w (ref_came v m f d _ got) (came_trans m b w (moves_came m b _ _ _ _ _ saw) (seen_came rest))

  mark_apart : {A : Type 0} (x : ℕ) → is_pinned x ≡ true → is_pinned x ≡ false → A
  mark_apart x on off = absurd (let e = sym on ∙ off in cc)

  module _ (says : ℕ → Bool) (n : ℕ) where
    off_alike : {k e w z : PortValue} {x found : ℕ} {answers others : List Bool} {a b : Result (Unit {0}) Stop} → GivesAnswers says n answers → GivesAnswers says n others →
        Off k e w x found answers a → Off k e z x found others b → Alike e w z ((answers ≡ others) × (a ≡ b))
    off_alike one two (raced other bare same none end) (raced out also still gone ends) = alike_same (same ∙ sym still) (none ∙ sym gone, end ∙ sym ends)
    off_alike {found = found} one two (raced other bare same none end) (lost out on still gone ends) = mark_apart found on bare
    off_alike one two (raced other bare same none end) (released r is run ends) = absurd (other is)
    off_alike {found = found} one two (lost other on same none end) (raced out bare still gone ends) = mark_apart found on bare
    off_alike one two (lost other on same none end) (lost out also still gone ends) = alike_same (same ∙ sym still) (none ∙ sym gone, end ∙ sym ends)
    off_alike one two (lost other on same none end) (released r is run ends) = absurd (other is)
    off_alike one two (released r is run end) (raced other bare same none ends) = absurd (other is)
    off_alike one two (released r is run end) (lost other on same none ends) = absurd (other is)
    off_alike one two (released r is run end) (released s also goes ends) = alike_map (released_alike says n one two run goes) (λ t. (t.0, end ∙ sym ends))

    seen_alike : {k b w z : PortValue} {x : ℕ} {answers others : List Bool} {a c : Result (Unit {0}) Stop} → GivesAnswers says n answers → GivesAnswers says n others →
        Seen k b w x answers a → Seen k b z x others c → Alike b w z ((answers ≡ others) × (a ≡ c))
    seen_alike one two (unpinned off gave none end) (unpinned also gone bare ends) = alike_map (puts_alike f gave.found gone.found) (λ s. (none ∙ sym bare, end ∙ sym ends))
    seen_alike {x = x} one two (unpinned off gave none end) (tried c e found on takes gone rest) = mark_apart x on off
    seen_alike {x = x} one two (tried c e found on takes gone rest) (unpinned off gave none end) = mark_apart x on off
    seen_alike {k} {b} {w} {z} {x} {others = others} {c = a'} one two (tried c e found on takes gave rest) (tried i j other also take gone more) =
        alike_next (λ q. GaveRef q j f) (moves_came b c _ _ _ _ _ takes) (came_trans c e w (gave_came c e f gave) (off_came rest)) (came_trans i j z (gave_came i j f gone) (off_came more)) (alike_move takes take) gone
        (λ same back. alike_next (λ q. Off k q z x other others a') (gave_came c e f gave) (off_came rest) (off_came more) (puts_alike f gave.found back.found) more
        (λ u behind. off_alike one two rest (subst (λ q. Off k e z x q others a') (sym same) behind)))

    unpins_alike : {v w z : PortValue} {answers others : List Bool} {a b : Result (Unit {0}) Stop} → GivesAnswers says n answers → GivesAnswers says n others →
        Unpins v w answers a → Unpins v z others b → Alike v w z ((answers ≡ others) × (a ≡ b))
    unpins_alike one two (unreferred stop got none end) (unreferred halt gets bare ends) =
        alike_map (gets_alike {A = ℕ} f d (Err stop) (Err halt) got.found gets.found) (λ s. (none ∙ sym bare, end ∙ (ap (λ k. Err k) s ∙ sym ends)))
    unpins_alike {v} {w} {z} one two (unreferred stop got none end) (referred m b x gets saw rest) =
        alike_apart (came_self w) (came_trans m b z (moves_came m b _ _ _ _ _ saw) (seen_came rest)) (gets_alike {A = ℕ} f d (Err stop) (Ok f) got.found gets.found) (λ s. absurd s)
    unpins_alike {v} {w} {z} one two (referred m b x gets saw rest) (unreferred stop got none end) =
        alike_apart (came_trans m b w (moves_came m b _ _ _ _ _ saw) (seen_came rest)) (came_self z) (gets_alike {A = ℕ} f d (Ok f) (Err stop) gets.found got.found) (λ s. absurd s)
    unpins_alike {v} {w} {z} {answers} {others} {a} {b} one two (referred m k x got saw rest) (referred i j y gets see more) =
        alike_next (λ q. SawKind q j f y) (ref_came v m f d _ got) (came_trans m k w (moves_came m k _ _ _ _ _ saw) (seen_came rest)) (came_trans i j z (moves_came i j _ _ _ _ _ see) (seen_came more))
        (gets_alike {A = ℕ} f d (Ok f) (Ok f) got.found gets.found) see
        (λ t again. alike_next (λ q. Seen v q z y others b) (moves_came m k _ _ _ _ _ saw) (seen_came rest) (seen_came more) (alike_move saw again) more
        (λ same behind. seen_alike one two rest (subst (λ q. Seen v k z q others b) (sym same) behind)))

pub unpinned_came : {v w : PortValue} {d f : ℕ} {answers : List Bool} {a : Result (Unit {0}) Stop} → Unpinned v w d f answers a → Came v w
unpinned_came {v} {w} {d} {f} {answers} {a} p = unpins_came d f (unpins d f v w answers a p)

pub unpinned_alike : {v w x : PortValue} {d f : ℕ} {answers others : List Bool} {a b : Result (Unit {0}) Stop} (says : ℕ → Bool) (n : ℕ) → GivesAnswers says n answers → GivesAnswers says n others →
    Unpinned v w d f answers a → Unpinned v x d f others b → Alike v w x ((answers ≡ others) × (a ≡ b))
unpinned_alike {v} {w} {x} {d} {f} {answers} {others} {a} {b} says n one two p q = unpins_alike d f says n one two (unpins d f v w answers a p) (unpins d f v x others b q)
