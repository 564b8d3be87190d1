mod SendCases
