-- What the definitions see of the bench and of the stand that the program holds.
use Rattle.std.specs.Prelude.{ℕ, Option, Some, None, length}
use Rattle.calls.specs.Reply.{reply_of}
use Rattle.script.specs.View.{in_places, line_of}
use Rattle.cases.specs.declared.bench.Bench.{Bench as HeldBench}
use Rattle.cases.specs.declared.run.Stand.{Stand as HeldStand}
use Rattle.cases.specs.Bench.{Bench, no_datapoint, no_item}
use Rattle.cases.specs.Run.{Stand}

-- each table in the first of its places, with a count beside
abbrev pub bench_of : HeldBench → Bench
bench_of b =
    record {
      link = b.link;
      datapoints = in_places 50 no_datapoint b.datapoints.items;
      datapointcount = length b.datapoints.items;
      items = in_places 4 no_item b.items.items;
      itemcount = length b.items.items;
      parameters = in_places 264 0 b.parameters.items;
      parametercount = length b.parameters.items;
      site = line_of b.site;
      defaults = line_of b.defaults;
      value = line_of b.value;
      out = b.out;
      reply = reply_of b.reply;
    }

-- 1000 is no place
abbrev pub place_of : Option ℕ → ℕ
place_of None = 1000
place_of (Some k) = k

abbrev pub stand_of : HeldStand → Stand
stand_of s = record { bench = bench_of s.bench; quiet = s.quiet; place = place_of s.place }
