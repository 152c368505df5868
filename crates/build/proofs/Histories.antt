-- The laws over any list of calls.
use Rattle.std.proofs.Common.{◌≡◌, ℕ, ◌+◌, ◌*◌, ◌<◌, ◌≤◌, Bool, true, List, [], ◌∷◌, ◌++◌, length, IfOk, Ok, Err, Result, sym, refl, ap, ◌∙◌, subst, arith}
use Rattle.geometry.specs.declared.block.Block.{Block}
use Rattle.geometry.specs.declared.cell.Cell.{Cell}
use Rattle.geometry.specs.declared.scope.Scope.{Scope}
use Rattle.geometry.specs.Boxes.{volume_of, shared_with}
use Rattle.rows.specs.Rows.{sizes, parts_of}
use Rattle.rows.proofs.Fills.{parts_sound}
use Rattle.rows.proofs.Lawfuls.{rows_lawful}
use Rattle.book.specs.declared.line.Line.{Line}
use Rattle.book.specs.Lines.{Checked}
use Rattle.sinks.specs.declared.refusal.SinkRefusal.{SinkRefusal}
use Rattle.sinks.specs.declared.refusal.SinkRefusal.TheVariants.{NoSuch, NoRoom, OverLimit, ShortBuffer}
use Rattle.sinks.specs.Meaning.{Parts, Empty, Keeps, Taken, Taking, Chain, Tells, materials, in_grid, over_materials, for_material}
use Rattle.sinks.specs.Laws.{GrownBy, count_in, volume_in}
use Rattle.sinks.proofs.Materials.{over_at, over_same, over_none}
use Rattle.sinks.proofs.Shares.{volume_le}
use Rattle.sinks.proofs.Chains.{chain_weaker, chain_sum, blocks_told}
use Rattle.derivation.specs.Derive.{Derived, begun}
use Rattle.derivation.specs.Laws.{scope_volume, block_volume, scopes_in}
use Rattle.derivation.proofs.Summing.{sum_append}
use Rattle.derivation.proofs.Keeps.{laws_hold, tiles_lawful}
use Rattle.steps.proofs.Runnings.{derived_trans}
use Rattle.build.specs.declared.build.Waiting.{Waiting}
use Rattle.build.specs.Builds as builds
use Rattle.build.specs.History.{Event, waited, closed, drained, counted, measured, looked, answered, History, opened, run, wait, close, drain, count, measure, look}
use Rattle.build.specs.Lawful.{Lawful, Answers, Exactly, RowsClose, LawsHold}

-- b has what a has and these blocks more, in every material, every cell and in all
pub record Received (edge : ℕ) (a b : Parts) (bs : List Block) : Type 0 where
  pub grown : GrownBy edge a b bs
  pub whole : over_materials b.volume ≡ over_materials a.volume + block_volume bs

received_none : (edge : ℕ) (a : Parts) → Received edge a a []
received_none edge a = record {
  grown = record { count = λ m. omega arith; volume = λ m. omega arith; cell = λ d. omega arith };
  whole = omega arith;
}

received_trans : (edge : ℕ) (a b c : Parts) (bs cs : List Block) → Received edge a b bs → Received edge b c cs → Received edge a c (bs ++ cs)
received_trans edge a b c bs cs r q = record {
  grown = record {
    count = λ m. omega (arith, r.grown.count m, q.grown.count m, sum_append (λ x. for_material m x 1) bs cs);
    volume = λ m. omega (arith, r.grown.volume m, q.grown.volume m, sum_append (λ x. for_material m x (volume_of x.cuboid)) bs cs);
    cell = λ d. omega (arith, r.grown.cell d, q.grown.cell d, sum_append (λ b. shared_with edge d b.cuboid) bs cs);
  };
  whole = omega (arith, r.whole, q.whole, sum_append (λ b. volume_of b.cuboid) bs cs);
}

received_keeps : (edge : ℕ) (a b c : Parts) (bs : List Block) → Received edge a b bs → Keeps b c → Received edge a c bs
received_keeps edge a b c bs r k = record {
  grown = record {
    count = λ m. k.count m ∙ r.grown.count m;
    volume = λ m. k.volume m ∙ r.grown.volume m;
    cell = λ d. k.cell d ∙ r.grown.cell d;
  };
  whole = over_same b.volume c.volume k.volume ∙ r.whole;
}

-- what a sink received that took blocks one after another
chain_received : {S : Type 0} (edge : ℕ) (parts : S → Parts) (took : S → Block → S → Type 0) (s t : S) (bs : List Block) → Chain (Taking edge parts took) s bs t → Received edge (parts s) (parts t) bs
chain_received edge parts took s t bs chain =
    let taken = chain_weaker (Taking edge parts took) (Taken edge parts) (λ u b v r. r.0) s t bs chain in
    record {
      grown = blocks_told edge parts s t bs taken;
      whole = chain_sum (Taken edge parts) (λ u. over_materials (parts u).volume) (λ b. volume_of b.cuboid)
          (λ u b v r. over_at (parts u).volume (parts v).volume b.material (volume_of b.cuboid) r.after.volume r.judged.0) s t bs taken;
    }

lots_most : (lots : List Scope) → scope_volume lots ≤ 4398046511104 * length lots
lots_most [] = omega arith
lots_most (s ∷ lots) = omega (arith, lots_most lots, volume_le s.cuboid)

rows_close : RowsClose
rows_close = record {
  splits = λ L p xs e. rows_lawful L (sizes (parts_of p)) xs (parts_sound (parts_of p)) e;
  repeats = λ L t xs e. tiles_lawful L t.length.0 xs e;
}

module _ {S : Type 0} (edge : ℕ) (parts : S → Parts) (took : S → Block → S → Type 0) (kept : S → S → Type 0) (text : S → List ℕ)
    (ls : List Line) (cap : ℕ) (lots : List Scope) (start : S) where
  pub record SoFar (es : List Event) (ws : List Scope) (s : S) : Type 0 where
    pub blocks : List Block
    pub derived : Derived ls lots (answered es) blocks ws
    pub received : Received edge (parts start) (parts s) blocks

  -- where the sink means the same, and no step was answered
  same_far : (es fs : List Event) (ws : List Scope) (s t : S) → answered fs ≡ answered es → parts t ≡ parts s → SoFar es ws s → SoFar fs ws t
  same_far es fs ws s t n e f = record {
    blocks = f.blocks;
    derived = subst (λ (k : ℕ). Derived ls lots k f.blocks ws) (sym n) f.derived;
    received = subst (λ (p : Parts). Received edge (parts start) p f.blocks) (sym e) f.received;
  }

  so_far : {es : List Event} {o : Bool} {ws : List Scope} {c : ℕ} {s : S} → History edge parts took kept text ls cap lots start es o ws c s → SoFar es ws s
  so_far opened = record { blocks = []; derived = begun; received = received_none edge (parts start) }
  so_far (run {es = es} {s = s} {t = t} budget n e h r d) =
      let f = so_far h in
      let more = chain_received edge parts took s r.through r.blocks r.taken in
      let same = subst (λ (p : Parts). Received edge (parts s) p r.blocks) (sym r.stays.0) more in
      record {
        blocks = f.blocks ++ r.blocks;
        derived = derived_trans f.derived r.derived;
        received = received_trans edge (parts start) (parts s) (parts t) f.blocks r.blocks f.received same;
      }
  so_far (wait {es = es} {ws = ws} {s = s} r h t) = same_far es (waited r ∷ es) ws s s refl refl (so_far h)
  so_far (close {es = es} {ws = ws} {s = s} r h t e) = same_far es (closed r ∷ es) ws s s refl refl (so_far h)
  so_far (drain {es = es} {ws = ws} {s = s} {t = t} buffer after (Ok n) h d) =
      let f = so_far h in
      record { blocks = f.blocks; derived = f.derived; received = received_keeps edge (parts start) (parts s) (parts t) f.blocks f.received d.state.0 }
  so_far (drain {es = es} {ws = ws} {s = s} {t = t} buffer after (Err x) h d) = same_far es (drained (Err x) ∷ es) ws s t refl d.state.0 (so_far h)
  so_far (count {es = es} {ws = ws} {s = s} {t = t} m r h a) = same_far es (counted m r ∷ es) ws s t refl a.same (so_far h)
  so_far (measure {es = es} {ws = ws} {s = s} {t = t} m r h a) = same_far es (measured m r ∷ es) ws s t refl a.same (so_far h)
  so_far (look {es = es} {ws = ws} {s = s} {t = t} d r h a) = same_far es (looked d r ∷ es) ws s t refl a.same (so_far h)

  module _ (ok : Checked ls) (few : length lots ≤ 16) (none : Empty (parts start)) where
    -- the count never reaches its end
    all_counted : {es : List Event} {o : Bool} {ws : List Scope} {c : ℕ} {s : S} → History edge parts took kept text ls cap lots start es o ws c s → c ≡ answered es
    all_counted opened = refl
    all_counted (run {es = es} {vs = vs} {c = c} budget n e h r d) =
        let f = so_far h in
        let k = laws_hold ls lots vs (answered es + n) (f.blocks ++ r.blocks) ok (derived_trans f.derived r.derived) in
        omega (arith, all_counted h, d, k.bound, lots_most lots)
    all_counted (wait r h t) = all_counted h
    all_counted (close r h t e) = all_counted h
    all_counted (drain buffer after r h d) = all_counted h
    all_counted (count m r h a) = all_counted h
    all_counted (measure m r h a) = all_counted h
    all_counted (look d r h a) = all_counted h

    -- what waits is not past 64 bits
    exactly : (es : List Event) (ws : List Scope) (s : S) (r : Waiting) → SoFar es ws s → builds.Tells ws r → Exactly ws r
    exactly es ws s r f t =
        let k = laws_hold ls lots ws (answered es) f.blocks ok f.derived in
        (t.0, omega (arith, t.1, k.whole, lots_most lots))

    -- what a question answers is the part
    told : (exists : Type 0) (n m : ℕ) (r : Result ℕ SinkRefusal) → Tells exists n r → n ≡ m → IfOk r (λ k. k ≡ m)
    told exists n m (Ok v) t e = t.1 ∙ e
    told exists n m (Err NoSuch) t e = tt
    told exists n m (Err NoRoom) t e = tt
    told exists n m (Err OverLimit) t e = tt
    told exists n m (Err ShortBuffer) t e = tt

    counts : (es : List Event) (ws : List Scope) (s : S) (f : SoFar es ws s) (m : ℕ) → (parts s).count m ≡ count_in f.blocks m
    counts es ws s f m = omega (arith, f.received.grown.count m, none.count m)

    volumes : (es : List Event) (ws : List Scope) (s : S) (f : SoFar es ws s) (m : ℕ) → (parts s).volume m ≡ volume_in f.blocks m
    volumes es ws s f m = omega (arith, f.received.grown.volume m, none.volume m)

    cells : (es : List Event) (ws : List Scope) (s : S) (f : SoFar es ws s) (d : Cell) → (parts s).cell d + scopes_in edge d ws ≡ scopes_in edge d lots
    cells es ws s f d = omega (arith, f.received.grown.cell d, none.cell d, (laws_hold ls lots ws (answered es) f.blocks ok f.derived).cells edge d)

    looked_at : (es : List Event) (ws : List Scope) (s : S) (f : SoFar es ws s) (d : Cell) (exists : Type 0) (r : Result ℕ SinkRefusal) → Tells exists ((parts s).cell d) r
        → IfOk r (λ n. n + scopes_in edge d ws ≡ scopes_in edge d lots)
    looked_at es ws s f d exists (Ok v) t = ap (λ n. n + scopes_in edge d ws) t.1 ∙ cells es ws s f d
    looked_at es ws s f d exists (Err x) t = tt

    answers : {es : List Event} {o : Bool} {ws : List Scope} {c : ℕ} {s : S} (h : History edge parts took kept text ls cap lots start es o ws c s) → Answers edge lots (so_far h).blocks ws es
    unfolding so_far same_far
    answers opened = tt
    answers (run budget n e h r d) = r.within
    answers (wait {es = es} {ws = ws} {s = s} r h t) = exactly es ws s r (so_far h) t
    answers (close {es = es} {ws = ws} {s = s} r h t e) = (exactly es ws s r.waiting (so_far h) t, e ∙ all_counted h)
    answers (drain buffer after (Ok n) h d) = tt
    answers (drain buffer after (Err x) h d) = tt
    answers (count {es = es} {ws = ws} {s = s} m r h a) = told (m < materials) ((parts s).count m) (count_in (so_far h).blocks m) r a.answer (counts es ws s (so_far h) m)
    answers (measure {es = es} {ws = ws} {s = s} m r h a) = told (m < materials) ((parts s).volume m) (volume_in (so_far h).blocks m) r a.answer (volumes es ws s (so_far h) m)
    answers (look {es = es} {ws = ws} {s = s} d r h a) = looked_at es ws s (so_far h) d (in_grid edge d ≡ true) r a.answer

    pub lawful : {es : List Event} {o : Bool} {ws : List Scope} {c : ℕ} {s : S} → History edge parts took kept text ls cap lots start es o ws c s → Lawful edge ls lots es ws c (parts s)
    lawful {es} {o} {ws} {c} {s} h =
        let f = so_far h in
        let k = laws_hold ls lots ws (answered es) f.blocks ok f.derived in
        record {
          blocks = f.blocks;
          derived = f.derived;
          counts = counts es ws s f;
          volumes = volumes es ws s f;
          cells = cells es ws s f;
          whole = omega (arith, f.received.whole, over_none (parts start).volume none.volume, k.whole);
          bound = k.bound;
          all = all_counted h;
          latest = answers h;
        }

pub build_laws : {S : Type 0} (edge : ℕ) (parts : S → Parts) (took : S → Block → S → Type 0) (kept : S → S → Type 0) (text : S → List ℕ) → LawsHold edge parts took kept text
build_laws edge parts took kept text = record {
  calls = λ ls cap lots start ok few none es o ws c s h. lawful edge parts took kept text ls cap lots start ok few none h;
  rows = rows_close;
}
