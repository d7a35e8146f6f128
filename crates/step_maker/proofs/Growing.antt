-- What a request within another asks and finds is a cause for the other too: one case for each refusal and pause.
use Rattle.std.proofs.Common.{◌≡◌, ◌⊎◌, ℕ, ◌+◌, Bool, true, false, Option, Some, None, inl, inr, refl, subst, ◌∙◌, arith}
use Rattle.xp_words.specs.Machine.{Machine}
use Rattle.xp_words.specs.declared.place.Place.{Place}
use Rattle.xp_words.specs.declared.place.Place.TheVariants.{Clock, Pages, Life, Vcpu, Refs, Kind, M2p, Cell, Map, Priv}
use Rattle.xp_words.specs.RefWords.{ref_read}
use Rattle.xp_words.specs.declared.kind.PageType.{PageType}
use Rattle.xp_board.specs.Readings.{domain_of, free_stamp}
use Rattle.xp_words.specs.declared.reply.Refusal.{Refusal}
use Rattle.xp_words.specs.declared.reply.Refusal.TheVariants as r
use Rattle.xp_words.specs.declared.reply.Pause.{Pause}
use Rattle.xp_words.specs.declared.reply.Pause.TheVariants.{Due, Lost, Busy, Flush, Alive}
use Rattle.xp_words.specs.declared.reply.Stop.{Stop}
use Rattle.xp_words.specs.declared.reply.Stop.TheVariants.{Refused, Paused}
use Rattle.xp_board.specs.declared.holdings.Holdings.{Holdings}
use Rattle.xp_board.specs.declared.step.Act.{Act}
use Rattle.xp_board.specs.declared.step.Act.TheVariants.{Load, Cas, Store, Add, Max}
use Rattle.step_maker.specs.Answers.{Causes}
use Rattle.step_maker.specs.Asked.{Request, IsAsked, of, back, Within, HasNoMore, NoMore, Passed, checked, given, old, stands, Implies}
use Rattle.step_maker.specs.Finding.{Finding, FoundAt, FoundWith, Did}
use Rattle.step_maker.specs.Licences.{IsNewWord, IsNoTableUpdate, IsOwnedBy, IsReached, Lacks, Licensed, HasTaken, HasTakenAll, top, below, over_others, to_grant, over_itself}
use Rattle.step_maker.specs.Pauses.{PausesFor, Progress, LeftAs, HasPassed, vcpu, frame, IsInTheWay, in_use, dying, Loses, IsWanted, Clear, idle, flushed, own, unmeant, barred, AskedTo}
use Rattle.step_maker.specs.Reasons.{AwaitsStamp, FoundFreeBy, Whose, OfOwner, Those, marked, other, free, begun, goes_on, MayFlush, NeedsFlush, MayCountPages, MayReach, taken, IsMarkAsked, IsPagesChange, IsRefChange, MayType, MayWriteOwn, MayChangeVcpu, Reason, MayLook, HasReason}
use Rattle.step_maker.specs.Reasons as reasons
use Rattle.step_maker.proofs.Progressing.{progress_in}

module _ (n : Machine) (s : ℕ) (q : Request) (F : Finding) (t : Request) (G : Finding) (w : Within n s q F t G) where
  pub found : (p : Place) (x : ℕ) → FoundAt F p x → FoundAt G p x
  found p x a = record { moment = a.moment; was = w.moments a.moment a.was; place = a.place; word = a.word }

  pub did : (p : Place) (b : Act) (x : ℕ) → Did F p b x → Did G p b x
  did p b x a = record { moment = a.moment; was = w.moments a.moment a.was; place = a.place; act = a.act; word = a.word }

  pub found_with : (p : Place) (x : ℕ) (h : Holdings) → FoundWith F p x h → FoundWith G p x h
  found_with p x h a = record { moment = a.moment; was = w.moments a.moment a.was; place = a.place; word = a.word; hand = a.hand }

  abbrev loses : (p : Place) (e x : ℕ) → Loses n F p e x → Loses n G p e x
  loses p e x a =
      record {
        before = a.before;
        exchange = a.exchange;
        new = a.new;
        was_before = w.moments a.before a.was_before;
        was_exchange = w.moments a.exchange a.was_exchange;
        place_before = a.place_before;
        place = a.place;
        act = a.act;
        word = a.word;
        last = a.last;
        other = a.other;
      }

  pub asks : (f : ℕ) → IsAsked n s q F f → IsAsked n s t G f
  asks f (of o k a) = of o k (w.asked f o k a)
  asks f (back a) = w.backs f a

  passed : (f o : ℕ) (h : Holdings) → Passed n q F f o h → Passed n t G f o h
  passed f o h (checked a) = checked a
  passed f o h (given k a b) = given k a b
  passed f o h (old v k x a b c d) = old v k x (w.contexts a) (found _ x b) c d
  passed f o h (stands u i x e a b c d j) = stands u i x e (w.entries a) (found _ x b) c d j

  freely : (g stamp : ℕ) → FoundFreeBy F g stamp → FoundFreeBy G g stamp
  freely g stamp a = (a.0, found _ a.0 a.1, a.2, a.3)

  -- ---- why a word may change
  pub awaited : (whose : Whose) (stamp : ℕ) → AwaitsStamp n s q F whose stamp → AwaitsStamp n s t G whose stamp
  awaited whose stamp (free f x k z o b a c d all e i) = free f x k z (w.pages k o) (w.block z b) (asks f a) (found _ x c) d (λ g same inside. freely g (free_stamp x) (all g same inside)) e i
  awaited whose stamp (marked f x o want h a b c d e i j) = marked f x o want h (w.asked f o (Some want) a) (found_with _ x h b) (passed f o h c) d e i j
  awaited whose stamp (other f x o want h a b c d e i j) = other f x o want h (w.asked f o (Some want) a) (found_with _ x h b) (passed f o h c) d e i j
  awaited whose stamp (begun x a b c d) = begun x (w.waits x a) b (found _ stamp c) d
  awaited whose stamp (goes_on x m a b c d e) = goes_on x m (w.waits x a) b (w.moments m c) d e

  pub needing : (h : Holdings) → NeedsFlush n s q F h → NeedsFlush n s t G h
  needing h (reasons.own a) = reasons.own (w.flushes a)
  needing h (reasons.awaited o x a b c) = reasons.awaited o x (awaited o x a) b c

  flushing : (h : Holdings) → MayFlush n s q F h → MayFlush n s t G h
  flushing h (reasons.needed a) = reasons.needed (needing h a)
  flushing h (reasons.asked x a b) = reasons.asked x a b

  reaching : (o : Whose) (v : ℕ) → MayReach n o F v → MayReach n o G v
  reaching (Those means) v a = a
  reaching (OfOwner o) v (inl a) = inl a
  reaching (OfOwner o) v (inr a) = inr (a.0, found _ a.0 a.1, a.2)

  counting : (d : ℕ) → MayCountPages n s q F d → MayCountPages n s t G d
  counting d (reasons.found f x a b c) = reasons.found f x (asks f a) (found _ x b) c
  counting d (taken k a b) = taken k (w.pages k a) b

  changing : (b : Act) → IsRefChange q b → IsRefChange t b
  changing (Cas e x) a = λ is. let k = a is in (k.0, w.pages k.0 k.1)
  changing Load a = tt
  changing (Store x) a = tt
  changing (Add x) a = tt
  changing (Max x) a = tt

  paging : (b : Act) → IsPagesChange q b → IsPagesChange t b
  paging (Cas e x) a = (a.0, w.pages a.0 a.1)
  paging Load a = tt
  paging (Store x) a = tt
  paging (Add x) a = tt
  paging (Max x) a = tt

  marking : (f x y : ℕ) → IsMarkAsked n s q F f x y → IsMarkAsked n s t G f x y
  marking f x y a = (w.locks a.0, asks f a.1, a.2)

  typing : (f : ℕ) (b : Act) (x : ℕ) (h : Holdings) → MayType n s q F f b x h → MayType n s t G f b x h
  typing f (Cas e y) x h (inl a) = inl (a.0, w.asked f a.0 _ a.1, passed f a.0 h a.2)
  typing f (Cas e y) x h (inr a) = inr (marking f e y a)
  typing f (Store y) x h a = (asks f a.0, a.1)
  typing f (Add y) x h a = asks f a
  typing f Load x h a = a
  typing f (Max y) x h a = a

  writing : (v k : ℕ) (h : Holdings) → MayWriteOwn n s q F v k h → MayWriteOwn n s t G v k h
  writing v k h (inl (a, inl b)) = inl (a, inl b)
  writing v k h (inl (a, inr b)) = inl (a, inr (flushing h b))
  writing v k h (inr a) = inr (w.destroys _ a)

  of_vcpu : (v k : ℕ) (b : Act) (h : Holdings) → MayChangeVcpu n s q F v k b h → MayChangeVcpu n s t G v k b h
  of_vcpu v k (Max x) h a = (a.0, (a.1.0, awaited a.1.0 x a.1.1, reaching a.1.0 v a.1.2), a.2)
  of_vcpu v k (Cas e x) h a = writing v k h a
  of_vcpu v k (Store x) h a = writing v k h a
  of_vcpu v k (Add x) h a = writing v k h a
  of_vcpu v k Load h a = a

  pub reason : (p : Place) (b : Act) (x : ℕ) (h : Holdings) → Reason n s q F p b x h → Reason n s t G p b x h
  reason Clock b x h a = (flushing h a.0, record { moment = a.1.moment; was = w.moments a.1.moment a.1.was; place = a.1.place; act = a.1.act; next = a.1.next })
  reason (Pages d) b x h a = (counting d a.0, paging b a.1)
  reason (Life d) b x h a = w.destroys d a
  reason (Vcpu v k) b x h a = of_vcpu v k b h a
  reason (Refs f) b x h a = (asks f a.0, changing b a.1)
  reason (Kind f) b x h a = typing f b x h a
  reason (M2p f) b x h a = asks f a
  reason (Cell f i) b x h a = asks f a
  reason (Map k) b x h a = (a.0, a.1, asks a.0 a.2)
  reason (Priv d) b x h a = w.grants d a

  may_look : (p : Place) → MayLook q p → MayLook t p
  may_look (Cell f i) (inl a) = inl (w.entries a)
  may_look (Cell f i) (inr (inl a)) = inr (inl (w.walks a))
  may_look (Cell f i) (inr (inr a)) = inr (inr (a.0, w.index a.0 a.1))
  may_look Clock a = a
  may_look (Pages d) a = a
  may_look (Life d) a = a
  may_look (Vcpu v k) a = a
  may_look (Refs f) a = a
  may_look (Kind f) a = a
  may_look (M2p f) a = a
  may_look (Map k) a = a
  may_look (Priv d) a = a

  pub has_reason : (p : Place) (b : Act) (x : ℕ) (h : Holdings) → HasReason n s q F p b x h → HasReason n s t G p b x h
  has_reason p Load x h a = may_look p a
  has_reason p (Cas e y) x h a = reason p (Cas e y) x h a
  has_reason p (Store y) x h a = reason p (Store y) x h a
  has_reason p (Add y) x h a = reason p (Add y) x h a
  has_reason p (Max y) x h a = reason p (Max y) x h a

  taken_in : (size block : ℕ) → HasTaken size F block → HasTaken size G block
  taken_in size block a =
      record { frame = a.frame; inside = a.inside; word = a.word; hand = a.hand; found = found_with _ a.word a.hand a.found; taken = a.taken; unclaimed = a.unclaimed }

  -- ---- pauses
  progress : Progress F → Progress G
  progress a = progress_in F G w.moments a

  left_as : (p : Place) (test : ℕ → Bool) → LeftAs F p test → LeftAs G p test
  left_as p test a = record { moment = a.moment; was = w.moments a.moment a.was; place = a.place; passes = a.passes }

  passing : HasPassed n q F → HasPassed n t G
  passing (vcpu d v a b c all) = vcpu d v (w.destroys d a) b c (λ k low is. left_as _ _ (all k low is))
  passing (frame d f x a b c e i k) = frame d f x (w.destroys d a) (found _ x b) c (left_as _ _ e) (left_as _ _ i) (left_as _ _ k)

  in_the_way : (f x : ℕ) → IsInTheWay n q F f x → IsInTheWay n t G f x
  in_the_way f x (in_use d y h a b c e i) = in_use d y h (w.destroys d a) (found_with _ x h b) c e i
  in_the_way f x (dying d a b c e) = dying d (w.destroys d a) (found _ x b) c e

  clear : (o : Whose) (stamp v : ℕ) → Clear n s o stamp F v → Clear n s o stamp G v
  clear o stamp v (idle x a b) = idle x (found _ x a) b
  clear o stamp v (flushed x a b) = flushed x (found _ x a) b
  clear o stamp v (own x y a b c) = own x y a (did _ _ y b) c
  clear o stamp v (unmeant means a b) = unmeant means a b
  clear o stamp v (barred d x a b c e) = barred d x a b (found _ x c) e

  cleared : (o : Whose) (stamp v : ℕ) → Clear n s o stamp F v ⊎ AskedTo stamp F v → Clear n s o stamp G v ⊎ AskedTo stamp G v
  cleared o stamp v (inl a) = inl (clear o stamp v a)
  cleared o stamp v (inr a) = inr (record { before = a.before; did = did _ _ a.before a.did })

  wanted : (o : Option PageType) (x : ℕ) → IsWanted q o x → IsWanted t o x
  wanted (Some k) x a = a
  wanted None x (inl a) = inl (w.locks a)
  wanted None x (inr a) = inr (w.contexts a)

  pub awaits : (x : Pause) → PausesFor n s q F x → PausesFor n s t G x
  awaits Due (rose, inl a) = (w.rose rose, inl (progress a))
  awaits Due (rose, inr a) = (w.rose rose, inr (passing a))
  awaits (Lost place e x) a = (a.0, a.1, a.2, (loses a.0 e x a.3.0, reason a.0 (Cas e a.3.0.new) x a.3.0.exchange.hand a.3.1))
  awaits (Busy f x) (inl a) = inl (a.0, a.1, a.2, w.asked f a.0 a.1 a.3, found_with _ x a.2 a.4, passed f a.0 a.2 a.5, a.6, wanted a.1 x a.7, a.8)
  awaits (Busy f x) (inr a) = inr (in_the_way f x a)
  awaits (Flush v stamp x) a = (
    a.0,
    record {
      other = a.1.other;
      real = a.1.real;
      running = found _ 0 a.1.running;
      flushed = found _ x a.1.flushed;
      behind = a.1.behind;
      asked = record { before = a.1.asked.before; did = did _ _ a.1.asked.before a.1.asked.did };
      reach = reaching a.0 v a.1.reach;
      own = clear a.0 stamp s a.1.own;
      least = λ u b. clear a.0 stamp u (a.1.least u b);
      others = λ u b. cleared a.0 stamp u (a.1.others u b);
    },
    awaited a.0 stamp a.2,
  )
  awaits (Alive v x) a = (w.destroys _ a.0, found _ x a.1, a.2)

  -- ---- walks
  pub reached : (level u : ℕ) → IsReached n s F level u → IsReached n s G level u
  reached _ u (top k x _ a b c) = top k x u a (found _ x b) c
  reached level _ (below _ v i x a b c) = below level v i x (reached (level + 1) v a) (found _ x b) c

  -- ---- refusals: what the vCPU has as the inner piece begins is no more than what it had as the outer one began
  module _ (b c : Holdings) (less : NoMore t b c) where
    not_within : (x y : Bool) → Implies x y → y ≡ false → x ≡ false
    not_within true y a off = absurd (let on = a refl in cc)
    not_within false y a off = refl

    no_more : (f : ℕ) (h : Holdings) → HasNoMore q f h b → HasNoMore t f h c
    no_more f h a =
        record {
          refs = λ away.
              let one = a.refs (λ asks. away (w.entries asks)) in
              let two = (less f).refs (λ asks. a.works (away asks)) in
              omega (arith, one, two);
          works = λ away. (less f).works (a.works away);
          typed = λ off. let one = a.typed (not_within q.entries t.entries w.entries off) in let two = (less f).typed off in omega (arith, one, two);
        }

    new_word : (f i y e : ℕ) → IsNewWord F f i y e → IsNewWord G f i y e
    new_word f i y e (inl a) = inl a
    new_word f i y e (inr a) = inr (a.0, found _ a.0 a.1, a.2)

    caller : (c : ℕ) → q.owner ≡ t.owner → (c ≡ domain_of n s) ⊎ (c ≡ q.owner) → (c ≡ domain_of n s) ⊎ (c ≡ t.owner)
    caller c same (inl a) = inl a
    caller c same (inr a) = inr (a ∙ same)

    lacking : (c d : ℕ) → Lacks n s q F c d → Lacks n s t G c d
    lacking c d (over_others a b e x i k) = over_others (w.over d a).0 (caller c (w.over d a).1 b) e x (found _ x i) k
    lacking c d (to_grant o a b e x i k) = to_grant o (w.grants o a) (w.over d b).0 e x (found _ x i) k
    lacking c d (over_itself a b e) = over_itself (w.destroys d a) b e

    no_update : IsNoTableUpdate q F → IsNoTableUpdate t G
    no_update (inl a) = inl (w.stores a)
    no_update (inr (f, x, a, b, c, e)) = inr (f, x, w.names (inr (inr b)) f a, (b.0, w.index b.0 b.1), found _ x c, e)

    all_taken : (size : ℕ) → HasTakenAll n size F → HasTakenAll n size G
    unfolding taken_in
    all_taken size a = record { taken = λ b inside. taken_in size b (a.taken b inside); upwards = λ low high b c less. a.upwards low high b c less }

    pub licensed : (x : Refusal) → Licensed n s b q F x → Licensed n s c t G x
    licensed (r.NoFrame f) a = (asks f a.0, a.1)
    licensed (r.WrongOwner f x) (o, k, a, b, inl c) = (o, k, w.asked f o k a, found _ x b, inl c)
    licensed (r.WrongOwner f x) (o, k, a, b, inr c) = (o, k, w.asked f o k a, found _ x b, inr (w.returns c.0, c.1))
    licensed (r.OtherType f k x) (inl a) = inl (a.0, a.1, w.asked f a.0 (Some k) a.2, found_with _ x a.1 a.3, passed f a.0 a.1 a.4, a.5)
    licensed (r.OtherType f k x) (inr a) = inr (w.names (inr (inr a.1)) f a.0, (a.1.0, w.index a.1.0 a.1.1), found _ x a.2, w.walks a.3, a.4, a.5)
    licensed (r.Reserved f i e) (inl a) = inl (a.0, w.entries a.1, found_with _ e a.0 a.2, a.3)
    licensed (r.Reserved f i e) (inr a) = inr (a.0, a.1, w.names (inr (inr (i, a.3))) f a.2, w.index i a.3, w.new_word a.0 a.4, w.moments a.1 a.5, a.6, new_word f i a.0 e a.7)
    licensed (r.CountFull f x) a = (a.0, a.1, a.2, w.asked f a.0 a.1 a.3, found_with _ x a.2 a.4, a.5, no_more f a.2 a.6)
    licensed (r.AlreadyPinned x) a = (a.0, a.1, a.2, a.3, w.asked a.0 a.1 (Some a.2) a.4, found_with _ x a.3 a.5, passed a.0 a.1 a.3 a.6, w.pins a.7, w.names (inl a.7) a.0 a.8, a.9, a.10)
    licensed (r.NotPinned x) a = (a.0, a.1, a.2, a.3, w.asked a.0 a.1 a.2 a.4, found_with _ x a.3 a.5, passed a.0 a.1 a.3 a.6, w.pins a.7, w.names (inl a.7) a.0 a.8, a.9)
    licensed (r.Slot i) (a, inl b) = (a, inl (w.by_numbers _ b))
    licensed (r.Slot i) (a, inr b) = (a, inr (b.0, b.1, asks b.0 b.2, found _ b.1 b.3, b.4, w.index i b.5))
    licensed (r.NotMapped level e) (inl a) = inl (a.0, a.1, w.walks a.2, (a.3.0, a.3.1, found _ 0 a.3.2))
    licensed (r.NotMapped level e) (inr a) = inr (a.0, a.1, w.walks a.2, (a.3.0, a.3.1, reached level a.3.0 a.3.2, found _ e a.3.3, a.3.4))
    licensed (r.ReadOnly e) (a, b, c) = (w.walks a, (b.0, b.1, found _ e b.2, b.3), no_update c)
    licensed r.NonCanonical a = w.by_numbers _ a
    licensed (r.NoPrivilege c d) a = lacking c d a
    licensed r.NoDomain a = w.by_numbers _ a
    licensed (r.Dying d x) a = ((w.over d a.0).0, found _ x a.1, a.2)
    licensed (r.DomainFull x) a = (a.0, found_with _ x a.0 a.1, a.2, (a.3.0, w.pages _ a.3.1, a.3.2))
    licensed r.NoFree a = (a.0, w.block _ a.1, all_taken a.0 a.2)
    licensed r.BadRange (inl a) = inl (w.by_numbers _ a)
    licensed r.BadRange (inr a) = inr (a.0, a.1, w.ldt_page _ a.2, found _ a.1 a.3, a.4)
    licensed (r.BadDescriptor f i x) (a, inl b) = (a, inl (b.0, asks f b.1, found_with _ x b.0 b.2, b.3))
    licensed (r.BadDescriptor f i x) (a, inr b) = (a, inr (w.names (inr (inr (i, b.1))) f b.0, w.index i b.1, w.descriptor x b.2))
    licensed r.BadCommand a = w.by_numbers _ a
    licensed (r.Clock x) a = (a.0, (a.1.0, found_with _ x a.1.0 a.1.1, needing a.1.0 a.1.2))
    licensed r.BatchLong a = w.by_numbers _ a
    licensed (r.InUse f x) a =
        (w.alone a.0, w.names (inr (inl a.0)) f a.1, subst (λ o. IsOwnedBy o (ref_read x)) (w.owner a.0) a.2, (a.3.0, found_with _ x a.3.0 a.3.1, a.3.2, no_more f a.3.0 a.3.3))

    pub causes : (e : Stop) → Causes n s b q F e → Causes n s c t G e
    causes (Refused x) a = licensed x a
    causes (Paused x) a = awaits x a
