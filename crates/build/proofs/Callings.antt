-- Calls one after another, and the laws at each stage.
use Rattle.std.proofs.Common.{◌≡◌, ℕ, ◌+◌, ◌<◌, ◌≤◌, Bool, true, false, cond, leb, List, [], ◌∷◌, ◌++◌, map, length, get_or, take, Option, sym, ap, ◌∙◌, subst₂, arith}
use Rattle.std.proofs.lemmas.List.{take_more, map_push, append_assoc}
use Rattle.geometry.specs.declared.block.Block.{Block}
use Rattle.geometry.specs.declared.scope.Scope.{Scope}
use Rattle.book.specs.declared.line.Line.{Line}
use Rattle.book.specs.Lines.{Checked}
use Rattle.sinks.specs.Meaning.{Parts, Empty}
use Rattle.build.specs.declared.calls.Call.{Call}
use Rattle.build.specs.Builds.{passed}
use Rattle.build.specs.History.{Event, History, opened, run, wait, close, drain, count, measure, look}
use Rattle.build.specs.Carried.{call_of, made, OneMore, Stage, Stages}
use Rattle.build.proofs.Histories.{lawful}

module _ {S : Type 0} (edge : ℕ) (parts : S → Parts) (took : S → Block → S → Type 0) (kept : S → S → Type 0) (text : S → List ℕ)
    (ls : List Line) (cap : ℕ) (lots : List Scope) (start : S) (ok : Checked ls) (few : length lots ≤ 16) (none : Empty (parts start)) where
  stage : {es : List Event} {o : Bool} {ws : List Scope} {c : ℕ} {s : S} → History edge parts took kept text ls cap lots start es o ws c s → Stage edge parts ls lots es
  stage {es} {o} {ws} {c} {s} h = record { waiting = ws; counts = c; sink = s; laws = lawful edge parts took kept text ls cap lots start ok few none h }

  -- every beginning of a history is one
  pub stages : {es : List Event} {o : Bool} {ws : List Scope} {c : ℕ} {s : S} → History edge parts took kept text ls cap lots start es o ws c s → Stages edge parts ls lots es
  stages opened = stage opened
  stages (run budget n e h r d) = (stage (run budget n e h r d), stages h)
  stages (wait r h t) = (stage (wait r h t), stages h)
  stages (close r h t e) = (stage (close r h t e), stages h)
  stages (drain buffer after r h d) = (stage (drain buffer after r h d), stages h)
  stages (count m r h a) = (stage (count m r h a), stages h)
  stages (measure m r h a) = (stage (measure m r h a), stages h)
  stages (look d r h a) = (stage (look d r h a), stages h)

-- at most 16 lots are joined
pub passed_few : (space : ℕ) (lots : List Scope) → length lots ≤ 16 → length (passed space lots) ≤ 16
passed_few space lots h =
    (elim (leb (length lots) space) as (λ b. length (cond b lots []) ≤ 16) [ true ↦ h | false ↦ omega arith ])

-- a build that was just opened
pub opened_at : {S : Type 0} (edge : ℕ) (parts : S → Parts) (took : S → Block → S → Type 0) (kept : S → S → Type 0) (text : S → List ℕ)
    (ls : List Line) (cap : ℕ) (lots ws : List Scope) (c : ℕ) (s : S) → ws ≡ lots → c ≡ 0 → History edge parts took kept text ls cap lots s [] true ws c s
opened_at edge parts took kept text ls cap lots ws c s e f = subst₂ (λ (vs : List Scope) (n : ℕ). History edge parts took kept text ls cap lots s [] true vs n s) (sym e) (sym f) opened
