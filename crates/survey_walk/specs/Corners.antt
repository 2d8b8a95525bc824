-- W, N, E and S of an outline (contract 3.1): their places, the corner W, and the rows of S and N.
use Rattle.chart.specs.Outline.{Outline}
use Rattle.lattice.specs.Chart.{corner_at}
use Rattle.convexity.specs.Cut.{corner_place}
use Rattle.survey_walk.specs.declared.Corners.{Corners}

-- The places of the letters that leave W, N, E and S, the corner W, and the rows of S and N (contract 3.1)
unfoldable pub corners_of : Outline → Corners
corners_of o =
    record {
      west = corner_place o 0;
      north = corner_place o 1;
      east = corner_place o 2;
      south = corner_place o 3;
      corner = corner_at o (corner_place o 0);
      bottom = (corner_at o (corner_place o 3)).row;
      top = (corner_at o (corner_place o 1)).row;
    }
