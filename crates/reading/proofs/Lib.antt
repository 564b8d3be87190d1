mod ReadCases
