-- Runs begun at any cycle of the bus clock take at most the tight figure, if every offset is listed as a start.
use mathlib.Core.Path.{◌≡◌, refl, sym, ◌∙◌, ap, subst}
use mathlib.Core.Bool.{true}
use mathlib.Core.List.{List}
use native.Mathlib.Nat.{mod-lt, mod-mod, add-zero}
use native.Mathlib.Omega.{arith}
use Prim.Native.Nat.{ℕ, zero, suc, ◌+◌, ◌-◌, ◌%◌, ◌≤◌, ◌<◌}
use Rattle.runs.specs.Clock.{on, with_lines}
use Rattle.runs.specs.Runs.{Task, places_of, final_offset, is_start, Run}
use Rattle.runs.specs.Figures.{tree_of}
use Rattle.runs.specs.Exact.{ValidTask}
use Rattle.runs.proofs.Cases.{split}
use Rattle.runs.proofs.LinesLaws.{lines_turn}
use Rattle.runs.proofs.ByNumber.{exec_does}
use Rattle.runs.proofs.SomeRun.{some_execution}
use Rattle.runs.proofs.Whole.{whole_valid}
use Rattle.runs.proofs.OnTheClock.{does_on}
use Rattle.image_bytes.specs.Bytes.{byte_at}
use Rattle.image.specs.Tasks.{task_of, starts_of}
use Rattle.rows.specs.Fields.{length_at, body_at}
use Rattle.image.specs.Judged.{judged}
use Rattle.rows.specs.Rules.{Starts}
use Rattle.image.specs.declared.Outline.{Outline}
use Rattle.std.specs.Prelude.{Ok}
use Rattle.nodes.proofs.Lists.{is_listed_lem}
use Rattle.image.proofs.Reasons.{when_accepted}
use Rattle.image.proofs.Sounds.{accepted, starts_kept}
use Rattle.answers.specs.Answers.{given, answer}
use Rattle.answers.specs.WholeRuns.{WholeRuns}
use Rattle.answers.proofs.Promises.{runs, figures_most}
use Rattle.graph.specs.Graph.{Graph, Permitted, InTime}
use Rattle.graph.specs.Images.{EveryOffset, Takes, Quoted, Imaged, Ran}
use Rattle.graph.proofs.Schedules.{some_schedule}

-- ---- one task

-- of figures of which demand 3 holds: a run begun at any cycle is one of the task's runs
pub any_cycle : (t : Task) (tight published exits : ℕ) (table : List ℕ) → WholeRuns t tight published exits table → EveryOffset t
    → (c d : ℕ) → Takes t c d → d ≤ tight
any_cycle t tight published exits table w every c d r =
    let (s, run) = w.some_run in
    let pos : 0 < t.bus.period = omega (arith, run.inside) in
    let below = mod-lt c pos in
    let this : Run t r.final = record { from = c % t.bus.period; inside = below; is_listed = every (c % t.bus.period) (omega (arith, below)); does = r.does } in
    omega (arith, w.within_tight r.final this, r.cycles)

-- a run begun at the cycle c that takes d cycles leaves the offset of the cycle c + d
pub ends_right : (t : Task) → 0 < t.bus.period → (c d : ℕ) (r : Takes t c d) → final_offset t r.final ≡ (c + d) % t.bus.period
unfolding with_lines
ends_right t pos c d r =
    does_on t pos c r.does (mod-mod c t.bus.period ∙ ap (λ (n : ℕ). n % t.bus.period) (sym (add-zero c)))
    ∙ ap (λ (n : ℕ). (c + n) % t.bus.period) r.cycles

-- from any cycle there is a run
some_takes : (t : Task) → ValidTask t → (c : ℕ) → (d : ℕ) × Takes t c d
some_takes t ok c =
    let pos = ok.lawful.period_pos in
    let turn = lines_turn t.bus.period pos t.lines in
    let (s, r) = some_execution t.bus ok.lawful ok.small (places_of t) turn (tree_of t) (whole_valid t ok) (on (c % t.bus.period) 0) (omega (arith, mod-lt c pos, turn.offsets_in)) in (
      s.count,
      record {
        final = s;
        does = exec_does t.bus (places_of t) t.node_at (suc t.entry) ok.falls (suc t.entry) t.entry (omega arith) (omega arith) (on (c % t.bus.period) 0) s r;
        cycles = refl;
      },
    )

-- ---- an image

-- an accepted image that lists every offset, begun at any cycle, takes at most its tight figure
pub takes_most : (s : List ℕ) (k : Outline) (time : ℕ) (q : Quoted s k time) → (c d : ℕ) → Takes (task_of s k) c d → d ≤ q.tight
takes_most s k time q c d r =
    any_cycle (task_of s k) q.tight q.published q.exits _
    (runs s q.lent k q.accepted q.tight q.published q.exits _ (sym (rw q.accepted at q.figure)) refl)
    q.every c d r

-- every figure of an accepted image may be a time
pub time_permitted : (s lent : List ℕ) (k : Outline) (tight published exits : ℕ) → judged s ≡ Ok k → answer s lent ≡ given tight published exits
    → (tight ≤ 6553500000) × (published ≤ 6553500000)
time_permitted s lent k tight published exits e h = figures_most s lent k e tight published exits _ (sym (rw e at h)) refl

-- P starts, ascending and below P, are the offsets themselves
module _ (s : List ℕ) (P : ℕ) (h : Starts s (body_at s 1) P P) where
  no_lower : (i : ℕ) → i < P → i ≤ byte_at s (body_at s 1 + i)
  no_lower zero l = omega arith
  no_lower (suc i) l = omega (arith, no_lower i (omega arith), h.ascend i (suc i) (omega arith) l)

  no_higher : (d i : ℕ) → i + d + 1 ≡ P → byte_at s (body_at s 1 + i) + d < P
  no_higher zero i e = omega (arith, h.low i (omega arith))
  no_higher (suc d) i e = omega (arith, no_higher d (suc i) (omega arith), h.ascend i (suc i) (omega arith) (omega arith))

  start_is : (i : ℕ) → i < P → byte_at s (body_at s 1 + i) ≡ i
  start_is i l = omega (arith, no_lower i l, no_higher (P - i - 1) i (omega arith))

-- how it is seen in the bytes: an accepted image with as many starts as its period has offsets lists every offset
pub lists_every : (s : List ℕ) (k : Outline) → judged s ≡ Ok k → length_at s 1 ≡ k.period → EveryOffset (task_of s k)
lists_every s k e full o l =
    let a = when_accepted s k e in
    let many : k.starts ≡ k.period = a.starts ∙ full in
    let h : Starts s (body_at s 1) k.period k.period = rw (many, ← a.period) at (starts_kept s k a) in
    let this : byte_at s (body_at s 1 + o) ≡ o = start_is s k.period h o (omega (arith, a.period, l)) in
    subst (λ (x : ℕ). is_start (starts_of s) x ≡ true) this (is_listed_lem s (body_at s 1) (length_at s 1) o (omega (arith, full, a.period, l)))

-- ---- a graph of images

module _ (g : Graph) (n : ℕ) (image : ℕ → List ℕ) (kept : ℕ → Outline) (quoted : Imaged g n image kept) (origin : ℕ) where
  pub in_time : (start end : ℕ → ℕ) → Ran g n image kept origin start end → InTime g n start end
  in_time start end r = record {
    starts = r.starts;
    takes = λ i l.
        let (d, t, e) = r.runs i l in
        let q = quoted i l in
        omega (arith, takes_most (image i) (kept i) (g i).time q (origin + start i) d t, q.covers, e);
  }

  -- how long some run of task i takes that is begun x cycles after the origin
  chosen : (i x : ℕ) → (d : ℕ) × (i < n → Takes (task_of (image i) (kept i)) (origin + x) d)
  chosen i x =
      split n i
      (λ h. (0, λ l. absurd (omega arith)))
      (λ h. let q = quoted i h in let (d, r) = some_takes (task_of (image i) (kept i)) (accepted (image i) (kept i) q.accepted) (origin + x) in (d, λ l. r))

  pub some_ran : ((i : ℕ) → i < n → Permitted i (g i)) → (start end : ℕ → ℕ) × Ran g n image kept origin start end
  some_ran ok =
      let (start, end, starts, ends) = some_schedule g n ok (λ i x. (chosen i x).0) in
      (start, end, record { starts = starts; runs = λ i l. ((chosen i (start i)).0, (chosen i (start i)).1 l, ends i l) })
