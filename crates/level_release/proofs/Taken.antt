-- An old word that names a frame was taken: what is in hand then, and what is left of that.
use Rattle.std.proofs.Common.{◌≡◌, ℕ, suc, ◌+◌, ◌<◌, ◌≤◌, add-one, List, [], ◌∷◌, length, Option, None, Some, Result, Ok, Err, refl, sym, ap, ◌∙◌, subst, arith}
use Rattle.xp_words.specs.Machine.{IsMachine}
use Rattle.xp_words.specs.declared.place.Place.TheVariants.{Kind}
use Rattle.xp_words.specs.declared.reply.Stop.{Stop}
use Rattle.xp_board.specs.Hands.{typed_to}
use Rattle.xp_board.specs.Told.{Post, PortValue}
use Rattle.xp_board.specs.declared.holdings.Holdings.{Holdings}
use Rattle.xp_board.specs.declared.holdings.Liveness.TheVariants as lives
use Rattle.xp_board.specs.declared.holdings.Made.{Made}
use Rattle.xp_board.specs.declared.holdings.OwnerFound.TheVariants as owners
use Rattle.xp_board.specs.declared.holdings.TypedReference.{TypedReference}
use Rattle.xp_board.specs.declared.step.Act.TheVariants.{Load, Store}
use Rattle.xp_board.specs.declared.step.StepKind.TheVariants as kinds
use Rattle.step_maker.specs.Holds.{Holds, Rests, still}
use Rattle.step_maker.proofs.Noting.{moves_steps}
use Rattle.kind_words.proofs.KindHands.{typed_held}
use Rattle.kind_words.proofs.Leaving.{without_newest}
use Rattle.table_words.specs.OldWords.{kept_in_old, known_old, learned_old, old_place, taken_from_old}
use Rattle.table_words.specs.declared.old_words.OldWord.{OldWord}
use Rattle.table_words.specs.declared.old_words.OldWord.TheVariants.{First, Second}
use Rattle.step_maker.specs.Pauses.{IsElsewhere}
use Rattle.level_release.specs.Holding.{LeavesUnheld}
use Rattle.level_release.specs.Settling.{SettledWord, TookOld}
use Rattle.level_release.proofs.Counted.{elsewhere}

-- the reference that came out of the word, by a step behind so many
abbrev pub named_ref : ℕ → ℕ → TypedReference
named_ref f since = record { frame = f; kind = None; owner = owners.Since since; live = lives.Since since }

abbrev pub with_named : OldWord → ℕ → ℕ → Holdings → Holdings
with_named which f since h = learned_old which 0 (record h { typed = named_ref f since ∷ h.typed })

named_by : (which : OldWord) (f : ℕ) (h : Holdings) → taken_from_old which (suc f) h ≡ with_named which f (length h.steps) h
named_by First f h = refl
named_by Second f h = refl

still_named : (which : OldWord) (f since : ℕ) (q : PortValue) → still (record q { holdings = with_named which f since q.holdings }) ≡ still (record (still q) { holdings = with_named which f since (still q).holdings })
still_named First f since q = refl
still_named Second f since q = refl

learned_twice : (which : OldWord) (f since x : ℕ) (u : PortValue) →
    still (record u { holdings = with_named which f since (record (learned_old which x u.holdings) { steps = [] }) }) ≡ still (record u { holdings = with_named which f since u.holdings })
learned_twice First f since x u = refl
learned_twice Second f since x u = refl

-- ---- by the part of the hand
with_typed : (which : OldWord) (f since : ℕ) (h : Holdings) → (with_named which f since h).typed ≡ named_ref f since ∷ h.typed
with_typed First f since h = refl
with_typed Second f since h = refl

-- what is in hand beside the references and the two words
abbrev rest_of : Holdings → Holdings
rest_of h = record h { typed = []; old0 = None; old1 = None }

with_rest : (which : OldWord) (f since : ℕ) (h : Holdings) → rest_of (with_named which f since h) ≡ rest_of h
with_rest First f since h = refl
with_rest Second f since h = refl

first_clear : (which : OldWord) (f since : ℕ) (h : Holdings) → (which ≡ Second → known_old First h ≡ Some 0) → known_old First (with_named which f since h) ≡ Some 0
first_clear First f since h clear = refl
first_clear Second f since h clear = clear refl

module _ {u v : PortValue} {which : OldWord} {f word : ℕ} (t : TookOld u v which f word) where
  abbrev pub named_since : ℕ
  named_since = length t.a.holdings.steps

  named_hand : Holds t.a t.b (with_named which f named_since t.a.holdings)
  named_hand = t.taken ∙ ap (λ h. still (record t.a { holdings = h })) (ap (λ x. taken_from_old which x t.a.holdings) (add-one f) ∙ named_by which f t.a.holdings)

  emptied_hand : Holds u t.b (with_named which f named_since u.holdings)
  emptied_hand =
      named_hand ∙ still_named which f named_since t.a ∙ ap (λ (q : PortValue). still (record q { holdings = with_named which f named_since q.holdings })) t.looked
      ∙ learned_twice which f named_since (f + 1) u

  pub took_hand : Holds u v (with_named which f named_since u.holdings)
  took_hand = t.same ∙ emptied_hand

  pub took_post : v.post ≡ u.post
  took_post = ap (λ (q : PortValue). q.post) took_hand

  -- ---- nothing else is in hand
  typed_of : (q : PortValue) → Holds u q (with_named which f named_since u.holdings) → q.holdings.typed ≡ named_ref f named_since ∷ []
  typed_of q hand = ap (λ (x : PortValue). x.holdings.typed) hand ∙ with_typed which f named_since u.holdings ∙ ap (λ ys. named_ref f named_since ∷ ys) t.rests.empty.typed

  pub took_typed : v.holdings.typed ≡ named_ref f named_since ∷ []
  took_typed = typed_of v took_hand

  pub took_held : 0 < typed_to f v.holdings.typed
  took_held = subst (λ ys. 0 < typed_to f ys) (sym took_typed) (typed_held f (named_ref f named_since) [] refl)

  rest_is : (q : PortValue) → Holds u q (with_named which f named_since u.holdings) → rest_of (record q.holdings { steps = [] }) ≡ rest_of (record u.holdings { steps = [] })
  rest_is q hand = ap (λ (x : PortValue). rest_of x.holdings) hand ∙ ap (λ (h : Holdings). record h { steps = [] }) (with_rest which f named_since u.holdings)

  pub took_works : v.holdings.works ≡ []
  took_works = ap (λ (h : Holdings). h.works) (rest_is v took_hand) ∙ t.rests.empty.works

  pub took_looking : v.holdings.looking ≡ []
  took_looking = ap (λ (h : Holdings). h.looking) (rest_is v took_hand) ∙ t.rests.empty.looking

  pub took_clear : known_old First v.holdings ≡ Some 0
  took_clear = ap (λ (q : PortValue). known_old First q.holdings) took_hand ∙ first_clear which f named_since u.holdings t.clear

  -- before the look at the kind word
  pub taken_held : 0 < typed_to f t.b.holdings.typed
  taken_held = subst (λ ys. 0 < typed_to f ys) (sym (typed_of t.b emptied_hand)) (typed_held f (named_ref f named_since) [] refl)

  pub taken_elsewhere : IsElsewhere f t.b.holdings
  taken_elsewhere =
      let same = rest_is t.b emptied_hand in
      elsewhere f t.b.holdings (ap (λ (h : Holdings). h.works) same ∙ t.rests.empty.works) (ap (λ (h : Holdings). h.locks) same ∙ t.rests.empty.locks) (ap (λ (h : Holdings). h.ending) same ∙ t.rests.empty.ending)

  pub named_before : named_since ≤ length t.b.holdings.steps
  named_before = let more = ap (λ (xs : List Made). length xs) (moves_steps t.a t.b (old_place u.post.vcpu which) (Store 0) kinds.Context None (f + 1) t.take) in omega (arith, more)

  pub named_later : named_since ≤ length v.holdings.steps
  named_later =
      let before = named_before in
      let more = ap (λ (xs : List Made). length xs) (moves_steps t.b v (Kind f) Load kinds.Look None word t.kind) in
      omega (arith, before, more)

-- ---- the reference is out of the hand again
left_by : (which : OldWord) (f since : ℕ) (u v w : PortValue) → Holds u v (with_named which f since u.holdings) → u.holdings.typed ≡ [] → (answer : Result (Unit {0}) Stop) → LeavesUnheld v w f answer → SettledWord u w which answer
left_by First f since u v w hand none (Ok done) left =
    left ∙ ap (λ (q : PortValue). still (record q { holdings = record q.holdings { typed = [] } })) hand ∙ ap (λ ys. still (record u { holdings = record u.holdings { typed = ys; old0 = Some 0 } })) (sym none)
left_by Second f since u v w hand none (Ok done) left =
    left ∙ ap (λ (q : PortValue). still (record q { holdings = record q.holdings { typed = [] } })) hand ∙ ap (λ ys. still (record u { holdings = record u.holdings { typed = ys; old1 = Some 0 } })) (sym none)
left_by First f since u v w hand none (Err e) left = (
  f,
  left ∙ ap (λ (q : PortValue). still (record q { holdings = record q.holdings { typed = []; old0 = Some (f + 1) } })) hand ∙ ap (λ ys. still (record u { holdings = record u.holdings { typed = ys; old0 = Some (f + 1) } })) (sym none),
)
left_by Second f since u v w hand none (Err e) left = (
  f,
  left ∙ ap (λ (q : PortValue). still (record q { holdings = record q.holdings { typed = []; old0 = Some (f + 1) } })) hand
      ∙ ap (λ ys. still (record u { holdings = record u.holdings { typed = ys; old0 = Some (f + 1); old1 = Some 0 } })) (sym none),
)

pub took_settled : {u v : PortValue} (w : PortValue) {which : OldWord} {f word : ℕ} (t : TookOld u v which f word) (answer : Result (Unit {0}) Stop) → LeavesUnheld v w f answer → SettledWord u w which answer
took_settled {u} {v} w {which} {f} {word} t answer left = left_by which f (length t.a.holdings.steps) u v w (took_hand t) t.rests.empty.typed answer left

-- the first word names the frame again
pub named_again : (v w : PortValue) {f : ℕ} {r : TypedReference} (e : Stop) → v.holdings.typed ≡ r ∷ [] → r.frame ≡ f → Holds v w (kept_in_old First f v.holdings) → LeavesUnheld v w f (Err e)
named_again v w {f} {r} e typed same kept =
    kept ∙ ap (λ ys. still (record v { holdings = record v.holdings { typed = ys; old0 = Some (f + 1) } })) (without_newest (λ (y : TypedReference). y.frame) f r [] v.holdings.typed same typed)

-- ---- nothing is in hand then
rests_by : {u w : PortValue} (first second : Option ℕ) → Rests u → Holds u w (record u.holdings { old0 = first; old1 = second }) → Rests w
rests_by first second rests hand =
    record {
      may = record {
        running = ap (λ (q : PortValue). q.holdings.run) hand ∙ rests.may.running;
        no_walk = ap (λ (q : PortValue). q.holdings.walk) hand ∙ rests.may.no_walk;
        machine = subst (λ (p : Post). IsMachine p.machine) (sym (ap (λ (q : PortValue). q.post) hand)) rests.may.machine;
      };
      empty = record {
        refs = ap (λ (q : PortValue). q.holdings.refs) hand ∙ rests.empty.refs;
        typed = ap (λ (q : PortValue). q.holdings.typed) hand ∙ rests.empty.typed;
        works = ap (λ (q : PortValue). q.holdings.works) hand ∙ rests.empty.works;
        locks = ap (λ (q : PortValue). q.holdings.locks) hand ∙ rests.empty.locks;
        ending = ap (λ (q : PortValue). q.holdings.ending) hand ∙ rests.empty.ending;
        claimed = ap (λ (q : PortValue). q.holdings.claimed) hand ∙ rests.empty.claimed;
        raised = ap (λ (q : PortValue). q.holdings.raised) hand ∙ rests.empty.raised;
        credits = ap (λ (q : PortValue). q.holdings.credits) hand ∙ rests.empty.credits;
        looking = ap (λ (q : PortValue). q.holdings.looking) hand ∙ rests.empty.looking;
      };
    }

pub settled_rests : {u w : PortValue} (which : OldWord) (answer : Result (Unit {0}) Stop) → Rests u → SettledWord u w which answer → Rests w
settled_rests {u} {w} First (Ok done) rests settled = rests_by (Some 0) u.holdings.old1 rests settled
settled_rests {u} {w} Second (Ok done) rests settled = rests_by u.holdings.old0 (Some 0) rests settled
settled_rests {u} {w} First (Err e) rests settled = rests_by (Some (settled.0 + 1)) u.holdings.old1 rests settled.1
settled_rests {u} {w} Second (Err e) rests settled = rests_by (Some (settled.0 + 1)) (Some 0) rests settled.1
