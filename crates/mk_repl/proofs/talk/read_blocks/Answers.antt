-- One line more, or the last one.
use Rattle.std.proofs.Common.{◌≡◌, ◌∙◌, sym, ap, subst, List, [], ◌∷◌, ◌++◌, ℕ, map, rules}
use Rattle.std.specs.Prelude.{◌≢◌, Option}
use Rattle.mk_script.specs.SeenFields.{bytes}
use Rattle.mk_repl.specs.CommandLines.{waited_behind, waited_for}
use Rattle.mk_repl.specs.InputLines.{LosesLine}
use Rattle.mk_repl.proofs.CommandLineLemmas.{Takes-none, Takes-trans, Waits, behind-long, waits-closed, waits-more, waits-none}
use Rattle.mk_repl.proofs.TalkLemmas.{prompts-more, prompts-none}
use Rattle.mk_repl.proofs.talk.read_blocks.Goals as goal
use Rattle.mk_repl.proofs.talk.read_blocks.Goals.{in-Line, in-TooLong}

pub loop-init : goal.loop-init
loop-init g c = (
  search rules,
  search rules,
  ([], waits-none (g.S.ByteSource.remaining c.args.source.now) (waited_for c.args.command.now), Takes-none c.args.command.now),
  prompts-none (g.W.ByteSink.contents c.args.out.now) (g.L.Handler.prompts c.args.handler.now),
)

pub returns-then-not-is_open-clause-read : goal.returns-then-not-is_open-clause-read
returns-then-not-is_open-clause-read g c =
    let came = c.loop.invariant.2 in
    let closed : waited_for c.loop.command ≡ [] = search rules in
    (came.0, waits-closed _ _ _ _ came.0 closed came.1, came.2)

pub returns-in-End-clause-prompted : goal.returns-in-End-clause-prompted
returns-in-End-clause-prompted g c = prompts-more _ _ _ _ c.loop.invariant.3 c.in_ok-prompt.ensures.prompted

pub loop-preserved : goal.loop-preserved
loop-preserved g c =
    let came = c.loop.invariant.2 in
    let first : Option (List ℕ) = g.S.ByteSource.remaining c.args.source.now in
    let rest : Option (List ℕ) = g.S.ByteSource.remaining c.read_line.new.source in
    let some : waited_for c.loop.command ≢ [] = search rules in
    let prompted = prompts-more _ _ _ _ c.loop.invariant.3 c.in_ok-prompt.ensures.prompted in
    elim c.match-branch-3.branch [
      | in-Line w ↦
          let line : List ℕ = w.as_slice.result.now in
          let was = rw w.in-Line.is at c.in_ok-read_line.ensures.read in
          let loses = subst (λ l. LosesLine (g.S.ByteSource.remaining c.loop.source) rest l) (sym w.as_slice.ensures.value) was.0 in
          rw w.command-is (
            search rules,
            search rules,
            (
              came.0 ++ line ∷ [],
              subst (λ waited. Waits first rest (waited_for c.args.command.now) waited (came.0 ++ line ∷ [])) (sym w.take.ensures.words)
                  (waits-more _ _ _ _ (waited_for c.loop.command) came.0 line some loses came.1),
              Takes-trans came.0 (line ∷ []) c.args.command.now c.loop.command w.take.new.self came.2 w.take.ensures.read,
            ),
            prompted,
          )
      | in-TooLong w ↦
          let was = rw w.in-TooLong.is at c.in_ok-read_line.ensures.read in
          let line : List ℕ = was.0 in
          let same : waited_behind line (waited_for c.loop.command) ≡ waited_for w.lose.new.self =
          behind-long line (waited_for c.loop.command) was.2 ∙ sym (ap (λ words. map bytes words.now) w.lose.ensures.words) in
          rw w.command-is (
            search rules,
            search rules,
            (
              came.0 ++ line ∷ [],
              subst (λ waited. Waits first rest (waited_for c.args.command.now) waited (came.0 ++ line ∷ [])) same
                  (waits-more _ _ _ _ (waited_for c.loop.command) came.0 line some was.1 came.1),
              Takes-trans came.0 (line ∷ []) c.args.command.now c.loop.command w.lose.new.self came.2 (w.lose.ensures.read line was.2),
            ),
            prompted,
          )
    ]
