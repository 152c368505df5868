-- One line more of a list of lots.
use Rattle.std.proofs.Common.{◌≡◌, ℕ, ◌+◌, ◌^◌, ◌<◌, ◌≤◌, true, false, cond, List, [], ◌∷◌, ◌++◌, map, length, Some, None, Ok, Err, Result, sym, refl, ap, ◌∙◌, subst, inr, ⊎_elim, arith}
use Rattle.std.proofs.lemmas.List.{length-append, length-map, map-append}
use Rattle.std.proofs.lemmas.Bool.{both_ways, cond-true}
use Rattle.geometry.specs.declared.cuboid.Cuboid.{Cuboid}
use Rattle.text.proofs.Blank.{blank_decides}
use Rattle.text.proofs.Reading.{value_of}
use Rattle.text.specs.Findings.{or_else}
use Rattle.text.specs.Lines.{is_blank}
use Rattle.text.specs.Tokens.{Lexeme, tokens_of}
use Rattle.text.specs.declared.placed.Placed.{Placed}
use Rattle.grammar.specs.declared.state.FileKind.TheVariants.{Lots as LotFile}
use Rattle.judge.proofs.Accepted.{accepts}
use Rattle.judge.specs.Files.{some, Spells}
use Rattle.judge.specs.Judged.{found, judged, Acceptable}
use Rattle.judge.specs.declared.faults.Fault.{Fault}
use Rattle.judge.specs.declared.faults.Fault.TheVariants.{TooMany}
use Rattle.by_lines.specs.Taken.{Taken}
use Rattle.by_lines.proofs.Judged.{line_added, line_refused}
use Rattle.forms.specs.Reads.{Says}
use Rattle.forms.specs.Taken.{LotRanged}
use Rattle.forms.specs.Told.{lot_of}
use Rattle.forms.specs.declared.lot.LotLine.{LotLine}
use Rattle.bounded.proofs.Listed.{pushed_in}
use Rattle.bounded.specs.Held.{Pushed}
use Rattle.bounded.specs.declared.full.Full.{Full}
use Rattle.lots.proofs.Boxed.{box_said_lem, box_passes}
use Rattle.lots.specs.Shares.{shares_any}
use Rattle.lots.specs.declared.list.Lot.{Lot}
use Rattle.lots.proofs.Orderly.{few, parts_of_lem, grown_lot, grown_blank}
use Rattle.lots.specs.Holds.{left_by, box_read, LotAdded, Grown, Fitting, LotPlaced, LotTaken, verdict_after}
use Rattle.lots.specs.Lists.{Box, box_of, boxed}
use Rattle.lots.specs.declared.list.LotList.{LotList}
use Rattle.lots.specs.Verdicts.{most_lots, box_from, box_in, box_said, inside_site, after, box_fault, too_many, line_fault}

same_box : (a b c d e f a' b' c' d' e' f' : ℕ) → a ≡ a' → b ≡ b' → c ≡ c' → d ≡ d' → e ≡ e' → f ≡ f'
    → box_from (a ∷ b ∷ c ∷ d ∷ e ∷ f ∷ []) ≡ box_from (a' ∷ b' ∷ c' ∷ d' ∷ e' ∷ f' ∷ [])
same_box a b c d e f a' b' c' d' e' f' p q r s t u = cc

-- the numbers of a box are below 2 ^ 64
pub record Small (b : Box) : Type 0 where
  pub px : b.px < 2 ^ 64
  pub py : b.py < 2 ^ 64
  pub pz : b.pz < 2 ^ 64
  pub sx : b.sx < 2 ^ 64
  pub sy : b.sy < 2 ^ 64
  pub sz : b.sz < 2 ^ 64

ranged_small : (r : LotLine) → LotRanged r → Small (box_read r)
ranged_small r h = record {
  px = omega (arith, h.corner_x);
  py = omega (arith, h.corner_y);
  pz = omega (arith, h.corner_z);
  sx = omega (arith, h.high_x);
  sy = omega (arith, h.high_y);
  sz = omega (arith, h.high_z);
}

box_small : (c : Cuboid) → Small (box_of c)
box_small c = record {
  px = omega (arith, c.x.inside);
  py = omega (arith, c.y.inside);
  pz = omega (arith, c.z.inside);
  sx = omega (arith, c.x.inside);
  sy = omega (arith, c.y.inside);
  sz = omega (arith, c.z.inside);
}

-- the box that a lot says is the one that was read
said_read : (r : LotLine) → Small (box_read r) → box_said (lot_of r) ≡ box_read r
said_read r h =
    same_box _ _ _ _ _ _ _ _ _ _ _ _ (value_of r.corner.x.0 h.px) (value_of r.corner.y.0 h.py) (value_of r.corner.z.0 h.pz) (value_of r.size.x.0 h.sx)
    (value_of r.size.y.0 h.sy) (value_of r.size.z.0 h.sz)

box_read_lem : (n : ℕ) (l : List ℕ) (r : LotLine) → Says LotFile n l (lot_of r) (r.name ∷ []) → LotRanged r → box_in l ≡ box_read r
box_read_lem n l r s h = box_said_lem l (lot_of r) tt s.spelled ∙ said_read r (ranged_small r h)

-- a lot whose box passes stands at the end where there is room
pub lot_placed : (n : ℕ) (r : LotLine) (p : LotList) (c : Cuboid) (after : List Lot) (o : Result Unit Full)
    → (inside_site (box_read r) ≡ true) × (box_of c ≡ box_read r) → false ≡ shares_any (box_of c) (left_by p)
    → Pushed 16 p.lots (record { cuboid = c; name = r.name }) after o → LotPlaced n r p (record { lots = after }) (Ok tt)
lot_placed n r p c after o b s h = (
  box_passes (left_by p) n (box_read r) (box_of c) b.0 b.1 s,
  (c, b.1, λ k. ap (λ (ls : List Lot). record { lots = ls }) (pushed_in 16 p.lots _ after o h (omega (arith, k)))),
)

pub lot_taken : (n : ℕ) (l : List ℕ) (r : LotLine) (p q : LotList) (o : Result Unit (Placed Fault)) → Says LotFile n l (lot_of r) (r.name ∷ []) → LotRanged r
    → LotPlaced n r p q o → LotTaken n l p q o
lot_taken n l r p q (Err f) s h d = (ap (box_fault (left_by p) n) (box_read_lem n l r s h) ∙ d.0, d.1)
lot_taken n l r p q (Ok u) s h d = λ f t k. (
  ap (box_fault (left_by p) n) (box_read_lem n l r s h) ∙ d.0,
  record { lot = r; box = d.1.0; says = s; boxed = d.1.1; grown = d.1.2 k },
)

has_token : (ps : List (Lexeme × ℕ)) → (ps ≡ [] → ⊥) → some ps ≡ true
has_token [] h = absurd (h refl)
has_token (p ∷ ps) h = refl

module _ (n : ℕ) (l : List ℕ) (p q : LotList) where
  abbrev bs : List Box
  bs = left_by p

  -- past the findings of the line by itself and of one too many
  last_finding : judged LotFile n l ≡ None → too_many bs l ≡ None → some (tokens_of l) ≡ true → line_fault bs n l ≡ box_fault bs n (box_in l)
  last_finding a m t =
      ap (λ o. or_else o (or_else (found TooMany n (too_many bs l)) (cond (some (tokens_of l)) (box_fault bs n (box_in l)) None))) a
      ∙ (ap (λ o. or_else (found TooMany n o) (cond (some (tokens_of l)) (box_fault bs n (box_in l)) None)) m ∙ cond-true _ _ _ t)

  -- what the list leaves after the line
  pub left_grown : Grown n l p q → left_by q ≡ after (left_by p) l
  left_grown g =
      ⊎_elim
      (λ b. ap left_by b.1 ∙ sym (grown_blank bs n l b.0))
      (λ (a : LotAdded n l p q). ap left_by a.grown
      ∙ (map-append boxed p.lots (record { cuboid = a.box; name = a.lot.name } ∷ [])
      ∙ (ap (λ (b : Box). map boxed p.lots ++ b ∷ []) (a.boxed ∙ sym (said_read a.lot (subst Small a.boxed (box_small a.box))))
      ∙ sym (grown_lot bs n l (lot_of a.lot) tt a.says.spelled))))
      g

  pub fitting_grown : Fitting p → line_fault bs n l ≡ None → Grown n l p q → Fitting q
  fitting_grown f e g =
      ⊎_elim
      (λ b. subst Fitting (sym b.1) f)
      (λ (a : LotAdded n l p q). subst Fitting (sym a.grown)
      (simp length-append (omega (arith, few bs n l (lot_of a.lot) tt a.says.spelled (parts_of_lem bs n l e).many, length-map p.lots boxed))))
      g

leaves : (n : ℕ) (l : List ℕ) (p q : LotList) → Grown n l p q → left_by q ≡ after (left_by p) l
leaves = left_grown

module _ (n : ℕ) (l : List ℕ) (p q : LotList) where
  -- a line without fault is added
  pub taken : line_fault (left_by p) n l ≡ None → Grown n l p q → Fitting p → Taken verdict_after Grown Fitting n l p q (Ok tt)
  taken e g f = line_added line_fault after left_by Grown leaves Fitting n l p q e g (fitting_grown n l p q f e g)

  pub refused : (g : Placed Fault) → line_fault (left_by p) n l ≡ Some g → q ≡ p → Taken verdict_after Grown Fitting n l p q (Err g)
  refused g = line_refused line_fault after left_by Grown leaves Fitting n l p q g

  -- the line is taken, and refused where its box is
  pub line_taken : (o : Result Unit (Placed Fault)) → None ≡ judged LotFile n l → None ≡ too_many (left_by p) l → false ≡ is_blank l → Fitting p → LotTaken n l p q o
      → Taken verdict_after Grown Fitting n l p q o
  line_taken o a m b fit h =
      let t : some (tokens_of l) ≡ true = has_token (tokens_of l) (λ e. both_ways (is_blank l) (sym b) ((blank_decides l (is_blank l) refl).1 e)) in
      let w : line_fault (left_by p) n l ≡ box_fault (left_by p) n (box_in l) = last_finding n l p q (sym a) (sym m) t in
      let c : Acceptable LotFile l = (accepts LotFile l n (judged LotFile n l) refl).0 (sym a) in
      (elim o as (λ o. LotTaken n l p q o → Taken verdict_after Grown Fitting n l p q o) [
        | Err g ↦ λ h. refused g (w ∙ h.0) h.1
        | Ok u ↦ λ h. ⊎_elim
            (λ e. absurd (both_ways (is_blank l) (sym b) e))
            (λ s. let sp : Spells LotFile l s.0 = record { fits = s.1; spelled = s.2; numbers = s.3; names = s.4 } in
            let k : length (left_by p) + 1 ≤ most_lots = few (left_by p) n l s.0 s.1 s.2 (sym m) in
            let d = h s.0 sp (omega (arith, k, length-map p.lots boxed)) in
            taken (w ∙ d.0) (inr d.1) fit)
            c.2
      ]) h
