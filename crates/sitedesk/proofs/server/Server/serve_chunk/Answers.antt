-- A part of the way is behind the parts before it.
use Rattle.std.proofs.Common.{subst, arith, [], take, drop}
use Rattle.tables.specs.Layout.{Tables}
use Rattle.std.proofs.lemmas.List.{take_rest}
use Rattle.protocol.specs.OnBoard.{tables_on}
use Rattle.stream.specs.Line.{held_in}
use Rattle.stream.specs.Feed.{feed, SameStream}
use Rattle.sitedesk.proofs.Ways.{further}
use Rattle.sitedesk.proofs.server.Server.serve_chunk.Goals as goal

pub loop-rest-preserved : goal.loop-rest-preserved
loop-rest-preserved g c =
    let v = c.loop-rest.invariant in
    let filled = c.fill_ready-filled.ensures in
    rw (take_rest c.loop-rest.rest.now c.fill_ready-filled.result.next) (record {
      tables = v.tables;
      room = omega (arith, v.room, c.fill_ready-filled.auto.out);
      came =
          let r = c.fill_ready-filled in
          let out = take r.result.used r.new.out in
          further {t = tables_on c.args.self.now.board} out v.came
          (subst (λ (t : Tables). SameStream t (feed c.loop-rest.self.desk (held_in c.loop-rest.self.line) []) c.loop-rest.rest.now
          (feed r.result.desk (held_in r.new.line) out) (drop r.result.next c.loop-rest.rest.now)) v.tables filled.same);
    })
