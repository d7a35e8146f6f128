-- The pages in hand: each is known live, and they are given back one by one, the newest first.
use Rattle.std.proofs.Common.{◌≡◌, ◌⊎◌, ℕ, zero, suc, ◌+◌, ◌-◌, ◌<◌, ◌≤◌, ◌==◌, ◌&&◌, add-one, true, List, [], ◌∷◌, get_or, Some, None, IsTrue, refl, sym, ap, ◌∙◌, subst, arith, inl, inr}
use Rattle.std.proofs.lemmas.Bool.{cases_eq, or_left, or_right}
use Rattle.xp_words.specs.Machine.{IsMachine}
use Rattle.xp_words.specs.Places.{Sizes, sizes_of}
use Rattle.xp_words.specs.declared.kind.PageType.TheVariants.{Desc}
use Rattle.xp_board.specs.declared.holdings.Made.{Made}
use Rattle.xp_board.specs.declared.holdings.OwnerFound.TheVariants as owners
use Rattle.xp_board.specs.declared.holdings.TypedReference.{TypedReference}
use Rattle.xp_board.specs.Hands.{typed_to, work_on}
use Rattle.xp_board.specs.KindSteps.{live_typed}
use Rattle.xp_board.specs.Knowledge.{knows_live, tells_live}
use Rattle.xp_board.specs.Lists.{first_by, some_of, times_by}
use Rattle.xp_board.specs.Told.{PortValue}
use Rattle.xp_board.proofs.ListCounts.{times_by-cons_other}
use Rattle.xp_board.proofs.Sums.{when_eq}
use Rattle.step_maker.specs.Holds.{Holds, MayWork, still}
use Rattle.step_maker.specs.Moves.{Came}
use Rattle.step_maker.proofs.Coming.{came_self, came_trans}
use Rattle.step_maker.specs.Answers.{Deed, Serves}
use Rattle.step_maker.specs.Asked.{Request, named, of, of_back}
use Rattle.step_maker.proofs.Piecing.{serves_back, serves_came}
use Rattle.frame_types.specs.Found.{DropsPlain}
use Rattle.frame_types.specs.Taking.{MayDropPlain, gave_type}
use Rattle.kind_words.proofs.KindHands.{known_first, typed_held}
use Rattle.kind_words.proofs.Leaving.{without_newest}
use Rattle.desc_pages.specs.Gdt.{GaveAll, GivesPages, HoldsPages, held, more, none, own_domain}
use Rattle.desc_pages.specs.Pages.{IsDescAside}

-- ---- what is known of them
head_live : (z : Sizes) (steps : List Made) (f d : ℕ) → ((f == f) && tells_live z steps f Desc (Some Desc) (live_typed f Desc (owners.Of d)).live) ≡ true
head_live z steps f d = rw (when_eq f f refl) refl

known_held : (z : Sizes) (steps : List Made) (f d : ℕ) (fs : List ℕ) (k : ℕ) → (typed_to f (held d fs k) ≡ 0) ⊎ IsTrue (some_of (λ e. (e.frame == f) && tells_live z steps f Desc e.kind e.live) (held d fs k))
unfolding some_of times_by
known_held z steps f d fs zero = inl refl
known_held z steps f d fs (suc k) =
    elim (cases_eq (get_or fs k 0) f) [
      | inl same ↦ inr (or_left _ _ (subst (λ y. ((y == f) && true) ≡ true) (sym same) (rw (when_eq f f refl) refl)))
      | inr other ↦ elim (known_held z steps f d fs k) [
        | inl off ↦ inl (times_by-cons_other (λ (y : TypedReference). y.frame) f (live_typed (get_or fs k 0) Desc (owners.Of d)) (held d fs k) other ∙ off)
        | inr on ↦ inr (or_right _ _ on)
      ]
    ]

pub aside_held : (v : PortValue) (fs : List ℕ) (k f : ℕ) → v.holdings.typed ≡ held (own_domain v) fs k → IsDescAside v f
unfolding knows_live
aside_held v fs k f typed =
    elim (known_held (sizes_of v.post.machine) v.holdings.steps f (own_domain v) fs k) [
      | inl off ↦ inl (ap (λ ts. typed_to f ts) typed ∙ off)
      | inr on ↦ inr (or_left _ _ (subst (λ ts. IsTrue (some_of (λ e. (e.frame == f) && tells_live (sizes_of v.post.machine) v.holdings.steps f Desc e.kind e.live) ts)) (sym typed) on))
    ]

-- ---- they are given back
-- from v to y all but the first of them, so many
pub record Giving (v y : PortValue) (fs : List ℕ) (many left : ℕ) : Type 0 where
  pub came : Came v y
  pub few : left ≤ many
  pub hand : Holds v y (record v.holdings { typed = held (own_domain v) fs left })
  pub serves : (u : PortValue) (r : Request) (ds : List Deed) → Serves u v r ds → ((i : ℕ) → i < many → IsTrue (r.names (get_or fs i 0))) → Serves u y r ds
  pub course : (w : PortValue) → GivesPages fs left y w → GivesPages fs many v w

pub giving_none : (v : PortValue) (fs : List ℕ) (many : ℕ) → HoldsPages v fs many → Giving v v fs many many
giving_none v fs many p =
    record {
      came = came_self v;
      few = omega arith;
      hand = ap (λ (ts : List TypedReference). still (record v { holdings = record v.holdings { typed = ts } })) p.typed;
      serves = λ u r ds before names. before;
      course = λ w gives. gives;
    }

module _ (v y : PortValue) (fs : List ℕ) (many k : ℕ) (p : HoldsPages v fs many) (g : Giving v y fs many (k + 1)) where
  abbrev page : ℕ
  page = get_or fs k 0

  abbrev d : ℕ
  d = own_domain v

  typed_there : y.holdings.typed ≡ live_typed page Desc (owners.Of d) ∷ held d fs k
  typed_there = ap (λ (q : PortValue). q.holdings.typed) g.hand ∙ ap (λ j. held d fs j) (add-one k)

  pub page_inside : page < y.post.machine.frames
  page_inside = let few = g.few in subst (λ (q : PortValue). page < q.post.machine.frames) (sym g.hand) (p.inside k (omega (arith, few)))

  pub page_works : MayWork v → MayWork y
  page_works may =
      record {
        running = ap (λ (q : PortValue). q.holdings.run) g.hand ∙ may.running;
        no_walk = ap (λ (q : PortValue). q.holdings.walk) g.hand ∙ may.no_walk;
        machine = subst (λ (q : PortValue). IsMachine q.post.machine) (sym g.hand) may.machine;
      }

  pub may_drop_page : MayDropPlain y.post.machine page Desc y.holdings
  unfolding first_by
  may_drop_page =
      record {
        held = subst (λ ts. 0 < typed_to page ts) (sym typed_there) (typed_held page (live_typed page Desc (owners.Of d)) (held d fs k) refl);
        live = known_first (sizes_of y.post.machine) page Desc (owners.Of d) (held d fs k) y.holdings typed_there;
        plain = refl;
        apart = ap (λ ws. work_on page ws) (ap (λ (q : PortValue). q.holdings.works) g.hand ∙ p.others.works);
      }

  module _ (w : PortValue) (gives : Serves y w (of_back page) []) (after : Holds y w (gave_type page y.holdings)) (drops : DropsPlain y w page Desc) where
    pub giving_more : Giving v w fs many k
    giving_more =
        let few = g.few in
        record {
          came = came_trans v y w g.came (serves_came y w (of_back page) [] gives);
          few = omega (arith, few);
          hand =
              after
              ∙ ap (λ (ts : List TypedReference). still (record y { holdings = record y.holdings { typed = ts } })) (without_newest (λ (t : TypedReference). t.frame) page (live_typed page Desc (owners.Of d)) (held d fs k) y.holdings.typed refl typed_there)
              ∙ ap (λ (q : PortValue). record q { holdings = record q.holdings { typed = held d fs k } }) g.hand;
          serves = λ u r ds before names. serves_back u y w r ds [] (g.serves u r ds before names) page (of r.owner None (named (names k (omega (arith, few))) refl tt)) gives;
          course = λ z rest. g.course z (more k y w z drops rest);
        }

pub gave_all : (v w : PortValue) (fs : List ℕ) (many : ℕ) → Giving v w fs many 0 → GaveAll v w fs many
gave_all v w fs many g = record { came = g.came; hand = g.hand; serves = g.serves; course = g.course w (none w) }

-- a number above 0 is one more than the one below it
pub one_below : (n : ℕ) → 0 < n → n ≡ n - 1 + 1
one_below n some = omega (arith, some)
